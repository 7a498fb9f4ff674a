-- Pieces of an input are written, one after another.
use Rattle.std.proofs.Common.{◌≡◌, ◌∙◌, inl, inr, ⊎_elim, ℕ, ◌+◌, ◌*◌, ◌-◌, ◌/◌, ◌%◌, ◌<◌, ◌≤◌, Bool, true, List, [], ◌∷◌, ◌++◌, length, take, drop, min, refl, sym, ap, subst, arith, append_assoc}
use Rattle.std.specs.Io.KnownBytes.{IsAtEnd}
use Rattle.std.specs.List.{concat}
use Rattle.std.proofs.KnownBytes.{Consumes-trans}
use Rattle.std.proofs.lemmas.List.{append-nil, length-append, length-drop, length-take-le}
use Rattle.md_faults.specs.declared.step_fault.BeginFault.{BeginFault}
use Rattle.md_faults.specs.declared.step_fault.BeginFault.TheVariants as begin
use Rattle.md_state.specs.Steps.Begin.{HasMarked, IsInRange}
use Rattle.md_state.specs.View.{MirrorView}
use Rattle.md_write.specs.Writing.{RefusesWrite, Writes}
use Rattle.md_refusals.specs.declared.fault.CommandFault.{CommandFault}
use Rattle.md_refusals.specs.declared.fault.CommandFault.TheVariants.{BadLength, InputFault, Resync, Write}
use Rattle.md_streams.specs.declared.source.Source.{Ghosts}
use Rattle.md_commands.specs.WritingPieces.{BeginsPieces, FailsToTakePiece, HasWritten, IsReadyForPieces, RefusesPieces, RefusesReadying, TakesFront, TakesPiece, WritesFront, WritesInPieces, WritesPieces, most_at_once, sectors_at_once}
use Rattle.md_commands.proofs.PiecesMarked.{marked_more}
use Rattle.md_commands.proofs.PiecesTaken.{gives_both}
use Rattle.md_commands.proofs.WriteKeepsChunks.{range_stays, writes_keep_chunks}

-- ---- the sectors of a piece
pub at_once_some : (sector left : ℕ) → 0 < left → 0 < sectors_at_once sector left
at_once_some sector left some = omega arith

pub at_once_few : (sector left : ℕ) → sectors_at_once sector left ≤ left
at_once_few sector left = omega arith

pub at_once_most : (sector left : ℕ) → sectors_at_once sector left ≤ most_at_once
at_once_most sector left = omega arith

-- ---- the front of a buffer that has room for any piece
pub front_long : (count n : ℕ) (buffer piece : List ℕ) → length buffer ≡ 512 * min count most_at_once → n ≤ count → n ≤ most_at_once → length piece ≡ length (take (512 * n) buffer)
    → length piece ≡ 512 * n
front_long count n buffer piece room few most same = same ∙ length-take-le (512 * n) buffer (omega arith)

pub buffer_stays : (count n : ℕ) (buffer piece : List ℕ) → length buffer ≡ 512 * min count most_at_once → n ≤ count → n ≤ most_at_once → length piece ≡ 512 * n
    → length (piece ++ drop (512 * n) buffer) ≡ length buffer
buffer_stays count n buffer piece room few most long = omega (arith, length-append piece (drop (512 * n) buffer), length-drop (512 * n) buffer)

plus_none : (n : ℕ) → n + 0 ≡ n
plus_none n = omega arith

less_none : (n : ℕ) → n - 0 ≡ n
less_none n = omega arith

-- of the first piece
at_once_first : (sector left : ℕ) → sectors_at_once sector left ≡ sectors_at_once (sector + 0) (left - 0)
at_once_first sector left =
    ap (λ (n : ℕ). sectors_at_once n left) (sym (plus_none sector)) ∙ ap (λ (n : ℕ). sectors_at_once (sector + 0) n) (sym (less_none left))

-- ---- lists of pieces
concat_more : (pieces : List (List ℕ)) (piece : List ℕ) → concat (pieces ++ piece ∷ []) ≡ concat pieces ++ piece
concat_more [] piece = append-nil piece
concat_more (p ∷ pieces) piece = ap (λ (l : List ℕ). p ++ l) (concat_more pieces piece) ∙ sym (append_assoc p (concat pieces) piece)

pieces_more : (sector left : ℕ) (pieces : List (List ℕ)) (piece : List ℕ) (old mid new : MirrorView) → WritesPieces sector left pieces old mid
    → length piece ≡ 512 * sectors_at_once (sector + length (concat pieces) / 512) (left - length (concat pieces) / 512)
    → Writes (sector + length (concat pieces) / 512) piece mid new → WritesPieces sector left (pieces ++ piece ∷ []) old new
pieces_more sector left [] piece old mid new same long writes =
    let here : sector + 0 / 512 ≡ sector = omega arith in
    let still : left - 0 / 512 ≡ left = omega arith in (
      new,
      subst (λ (n : ℕ). length piece ≡ 512 * sectors_at_once sector n) still (subst (λ (s : ℕ). length piece ≡ 512 * sectors_at_once s (left - 0 / 512)) here long),
      subst (λ (v : MirrorView). Writes sector piece v new) same (subst (λ (s : ℕ). Writes s piece mid new) here writes),
      refl,
    )
pieces_more sector left (p ∷ pieces) piece old mid new h long writes =
    let whole : length p % 512 ≡ 0 = ap (λ (n : ℕ). n % 512) h.1 ∙ multiple (sectors_at_once sector left) in
    let joined = length-append p (concat pieces) in
    let here : sector + length (p ++ concat pieces) / 512 ≡ sector + length p / 512 + length (concat pieces) / 512 = omega arith in
    let still : left - length (p ++ concat pieces) / 512 ≡ left - length p / 512 - length (concat pieces) / 512 = omega arith in (
      h.0,
      h.1,
      h.2,
      pieces_more (sector + length p / 512) (left - length p / 512) pieces piece h.0 mid new h.3
          (subst (λ (n : ℕ). length piece ≡ 512 * sectors_at_once (sector + length p / 512 + length (concat pieces) / 512) n) still
          (subst (λ (s : ℕ). length piece ≡ 512 * sectors_at_once s (left - length (p ++ concat pieces) / 512)) here long))
          (subst (λ (s : ℕ). Writes s piece mid new) here writes),
    )
  where
    multiple : (n : ℕ) → (512 * n) % 512 ≡ 0
    multiple n = omega arith

module _ {I : Type 0} (i : Ghosts I) (sector len : ℕ) where
  -- so many sectors of the input are written, one at least
  pub record WrittenSoFar (done : ℕ) (old new : MirrorView) (input rest : I) : Type 0 where
    pub some : 0 < done
    pub bytes : List ℕ
    pub many : length bytes ≡ 512 * done
    pub front : WritesFront sector (len / 512) bytes old new
    pub takes : TakesFront i len input rest bytes
    pub range : IsInRange new.array sector (len / 512)
    pub cut : new.array.chunks ≡ front.ready.array.chunks

module _ {I : Type 0} (i : Ghosts I) (sector len : ℕ) (whole : len % 512 ≡ 0) where
  pub written_first : (old new : MirrorView) (input rest : I) (piece : List ℕ) → BeginsPieces i sector len old new input rest piece
      → length piece ≡ 512 * sectors_at_once sector (len / 512) → WrittenSoFar i sector len (sectors_at_once sector (len / 512)) old new input rest
  written_first old new input rest piece b long = record {
    some = at_once_some sector (len / 512) b.readied.range.some;
    bytes = piece;
    many = long;
    front = record {
      ready = b.ready;
      readied = b.readied;
      pieces = piece ∷ [];
      joined = sym (append-nil piece);
      each = (new, long, b.writes, refl);
      marked = λ _. b.writes.marked;
    };
    takes = b.takes;
    range = range_stays b.ready.array new.array sector (len / 512) (writes_keep_chunks sector piece b.ready new b.writes) b.readied.range;
    cut = writes_keep_chunks sector piece b.ready new b.writes;
  }

  -- all of it is written
  pub written_all : (old new : MirrorView) (input rest : I) (done : ℕ) → done ≡ len / 512 → WrittenSoFar i sector len done old new input rest → WritesInPieces i sector len old new input rest
  written_all old new input rest done all so_far = record {
    bytes = so_far.bytes;
    many = let many = so_far.many in omega arith;
    takes = so_far.takes;
    writes = so_far.front;
  }

  -- ---- a piece more, of so many sectors
  module _ (old mid : MirrorView) (input between : I) (done n : ℕ) (so_far : WrittenSoFar i sector len done old mid input between) (is : n ≡ sectors_at_once (sector + done) (len / 512 - done))
      (is_last : Bool) (last : done + n ≡ len / 512 → is_last ≡ true) (only : is_last ≡ true → done + n ≡ len / 512) (within : done < len / 512) where
    abbrev b : List ℕ
    b = so_far.bytes

    sectors_before : length b / 512 ≡ done
    sectors_before = let many = so_far.many in omega arith

    fits : done + n ≤ len / 512
    fits = let few = at_once_few (sector + done) (len / 512 - done) in omega arith

    long_of : (piece : List ℕ) → length piece ≡ 512 * n → length piece ≡ 512 * sectors_at_once (sector + done) (len / 512 - done)
    long_of piece long = long ∙ ap (λ (m : ℕ). 512 * m) is

    few_of : (bytes : ℕ) → bytes ≤ 512 * n + 1 → bytes ≤ 512 * sectors_at_once (sector + done) (len / 512 - done) + 1
    few_of bytes few = subst (λ (m : ℕ). bytes ≤ 512 * m + 1) is few

    takes_more : (rest : I) (piece : List ℕ) → length piece ≡ 512 * n → TakesPiece i is_last between rest piece → TakesFront i len input rest (b ++ piece)
    takes_more rest piece long takes = record {
      gives = gives_both i input between rest b piece so_far.takes.gives takes.gives;
      end = λ (all : length (b ++ piece) ≡ len).
          let many = so_far.many in
          let joined = length-append b piece in
          takes.end (last (omega arith));
    }

    front_more : (new : MirrorView) (piece : List ℕ) → length piece ≡ 512 * n → Writes (sector + done) piece mid new → WritesFront sector (len / 512) (b ++ piece) old new
    front_more new piece long writes =
        let front = so_far.front in
        let before : done ≡ length (concat front.pieces) / 512 = sym sectors_before ∙ ap (λ (l : List ℕ). length l / 512) front.joined in
        record {
          ready = front.ready;
          readied = front.readied;
          pieces = front.pieces ++ piece ∷ [];
          joined = ap (λ (l : List ℕ). l ++ piece) front.joined ∙ sym (concat_more front.pieces piece);
          each = pieces_more sector (len / 512) front.pieces piece front.ready mid new front.each
              (subst (λ (m : ℕ). length piece ≡ 512 * sectors_at_once (sector + m) (len / 512 - m)) before (long_of piece long))
              (subst (λ (m : ℕ). Writes (sector + m) piece mid new) before writes);
          marked = λ _.
              let some = so_far.some in
              let more : 0 < n = subst (λ (m : ℕ). 0 < m) (sym is) (at_once_some (sector + done) (len / 512 - done) (omega arith)) in
              let many = so_far.many in
              let joined = length-append b piece in
              let all : done + n ≡ length (b ++ piece) / 512 = omega arith in
              let sectors : length piece / 512 ≡ n = omega arith in
              let first : HasMarked front.ready.array sector done mid.array.marks =
              subst (λ (m : ℕ). HasMarked front.ready.array sector m mid.array.marks) sectors_before (front.marked (omega arith)) in
              let next : HasMarked mid.array (sector + done) n new.array.marks = subst (λ (m : ℕ). HasMarked mid.array (sector + done) m new.array.marks) sectors writes.marked in
              subst (λ (m : ℕ). HasMarked front.ready.array sector m new.array.marks) all
              (marked_more front.ready.array mid.array sector done n new.array.marks some more so_far.cut first next);
        }

    pub written_more : (new : MirrorView) (rest : I) (piece : List ℕ) → length piece ≡ 512 * n → TakesPiece i is_last between rest piece → Writes (sector + done) piece mid new
        → WrittenSoFar i sector len (done + n) old new input rest
    unfolding front_more
    written_more new rest piece long takes writes = record {
      some = let some = so_far.some in omega arith;
      bytes = b ++ piece;
      many = let many = so_far.many in length-append b piece ∙ omega arith;
      front = front_more new piece long writes;
      takes = takes_more rest piece long takes;
      range = range_stays mid.array new.array sector (len / 512) (writes_keep_chunks (sector + done) piece mid new writes) so_far.range;
      cut = writes_keep_chunks (sector + done) piece mid new writes ∙ so_far.cut;
    }

    stands : HasWritten sector (len / 512) done b old mid
    stands = record {
      many = so_far.many;
      none = λ none. let some = so_far.some in absurd (omega arith);
      some = λ _. so_far.front;
    }

    -- the array has its sectors
    part_in_range : IsInRange mid.array (sector + done) n
    part_in_range = record {
      some = let some = at_once_some (sector + done) (len / 512 - done) (omega arith) in omega arith;
      inside = let inside = so_far.range.inside in let few = fits in omega arith;
    }

    pub not_written_later : (new : MirrorView) (rest : I) (piece : List ℕ) → length piece ≡ 512 * n → TakesPiece i is_last between rest piece → (fault : BeginFault)
        → RefusesWrite (sector + done) piece mid new fault → RefusesPieces i sector len done old new input rest (Write fault)
    not_written_later new rest piece long takes begin.OutOfRange r =
        let sectors : length piece / 512 ≡ n = omega arith in
        absurd (r.reason.out (subst (λ (m : ℕ). IsInRange mid.array (sector + done) m) (sym sectors) part_in_range))
    not_written_later new rest piece long takes fault r = record {
      bytes = b;
      many = so_far.many;
      mid = mid;
      stands = so_far.front;
      piece = piece;
      long = long_of piece long;
      takes = takes_more rest piece long takes;
      refused = r;
    }

    pub not_taken_later : (rest : I) (fault : CommandFault) → FailsToTakePiece i is_last (512 * n) between rest fault → RefusesPieces i sector len done old mid input rest fault
    not_taken_later rest InputFault h = record {
      bytes = b;
      stands = stands;
      unfinished = λ _. within;
      piece = h.bytes;
      few = subst (λ (m : ℕ). length h.bytes ≤ 512 * m) is h.few;
      taken = Consumes-trans (i.remaining input) (i.remaining between) (i.remaining rest) b h.bytes so_far.takes.gives.consumes h.taken;
      has_failed = h.has_failed;
    }
    not_taken_later rest BadLength h =
        let many = so_far.many in
        let few = fits in
        let joined = length-append b h.bytes in
        record {
          bytes = b;
          stands = stands;
          unfinished = λ _. within;
          piece = h.bytes;
          few = ⊎_elim
              (λ (early : (length h.bytes < 512 * n) × IsAtEnd (i.remaining rest)). let short = early.0 in few_of (length h.bytes) (omega arith))
              (λ (late : (is_last ≡ true) × (length h.bytes ≡ 512 * n + 1)). let one = late.1 in few_of (length h.bytes) (omega arith))
              h.other;
          gives = gives_both i input between rest b h.bytes so_far.takes.gives h.gives;
          other = ⊎_elim
              (λ (early : (length h.bytes < 512 * n) × IsAtEnd (i.remaining rest)). let short = early.0 in inl (omega arith, early.1))
              (λ (late : (is_last ≡ true) × (length h.bytes ≡ 512 * n + 1)). let all = only late.0 in let one = late.1 in inr (omega arith))
              h.other;
        }
    not_taken_later rest fault h = absurd h

  -- ---- the first piece, of so many bytes
  module _ (old : MirrorView) (input : I) (long : ℕ) (is : long ≡ 512 * sectors_at_once sector (len / 512)) (is_last : Bool) (last : long ≡ len → is_last ≡ true) (only : is_last ≡ true → long ≡ len) where
    nothing_written : HasWritten sector (len / 512) 0 [] old old
    nothing_written = record { many = refl; none = λ _. refl; some = λ some. absurd (omega arith) }

    long_first : long ≡ 512 * sectors_at_once (sector + 0) (len / 512 - 0)
    long_first = is ∙ ap (λ (n : ℕ). 512 * n) (at_once_first sector (len / 512))

    pub takes_first : (rest : I) (piece : List ℕ) → length piece ≡ long → TakesPiece i is_last input rest piece → TakesFront i len input rest piece
    takes_first rest piece as_long takes = record { gives = takes.gives; end = λ (all : length piece ≡ len). takes.end (last (sym as_long ∙ all)) }

    pub not_taken : (rest : I) (fault : CommandFault) → FailsToTakePiece i is_last long input rest fault → RefusesPieces i sector len 0 old old input rest fault
    not_taken rest InputFault h = record {
      bytes = [];
      stands = nothing_written;
      unfinished = λ (some : 0 < 0). absurd (omega arith);
      piece = h.bytes;
      few = subst (λ (n : ℕ). length h.bytes ≤ n) long_first h.few;
      taken = h.taken;
      has_failed = h.has_failed;
    }
    not_taken rest BadLength h = record {
      bytes = [];
      stands = nothing_written;
      unfinished = λ (some : 0 < 0). absurd (omega arith);
      piece = h.bytes;
      few = subst (λ (n : ℕ). length h.bytes ≤ n + 1) long_first
          (⊎_elim
          (λ (early : (length h.bytes < long) × IsAtEnd (i.remaining rest)). let short = early.0 in omega arith)
          (λ (late : (is_last ≡ true) × (length h.bytes ≡ long + 1)). let one = late.1 in omega arith)
          h.other);
      gives = h.gives;
      other = ⊎_elim
          (λ (early : (length h.bytes < long) × IsAtEnd (i.remaining rest)). let short = early.0 in let few = at_once_few sector (len / 512) in inl (omega arith, early.1))
          (λ (late : (is_last ≡ true) × (length h.bytes ≡ long + 1)). inr (late.1 ∙ ap (λ (n : ℕ). n + 1) (only late.0)))
          h.other;
    }
    not_taken rest fault h = absurd h

    module _ (rest : I) (piece : List ℕ) (as_long : length piece ≡ long) (takes : TakesPiece i is_last input rest piece) where
      pub not_readied : (new : MirrorView) (fault : CommandFault) → RefusesReadying sector (len / 512) old new fault → RefusesPieces i sector len 0 old new input rest fault
      not_readied new (Resync fault) h = record { none = refl; piece = piece; many = as_long ∙ is; takes = takes_first rest piece as_long takes; refused = h }
      not_readied new (Write begin.OutOfRange) h =
          record { none = refl; piece = piece; many = as_long ∙ is; takes = takes_first rest piece as_long takes; readied = h.0; past = h.1 }
      not_readied new (Write fault) h = absurd h
      not_readied new fault h = absurd h

      module _ (ready new : MirrorView) (readied : IsReadyForPieces sector (len / 512) old ready) where
        pub begun : Writes sector piece ready new → BeginsPieces i sector len old new input rest piece
        begun writes = record { ready = ready; readied = readied; writes = writes; takes = takes_first rest piece as_long takes }

        first_in_range : IsInRange ready.array sector (length piece / 512)
        first_in_range =
            let some = at_once_some sector (len / 512) readied.range.some in
            let few = at_once_few sector (len / 512) in
            let inside = readied.range.inside in
            record { some = omega arith; inside = omega arith }

        pub not_written : (fault : BeginFault) → RefusesWrite sector piece ready new fault → RefusesPieces i sector len 0 old new input rest (Write fault)
        not_written begin.OutOfRange r = absurd (r.reason.out first_in_range)
        not_written fault r = record {
          bytes = [];
          many = refl;
          mid = ready;
          stands = record { ready = ready; readied = readied; pieces = []; joined = refl; each = refl; marked = λ (some : 0 < 0). absurd (omega arith) };
          piece = piece;
          long = as_long ∙ long_first;
          takes = takes_first rest piece as_long takes;
          refused = subst (λ (n : ℕ). RefusesWrite n piece ready new fault) (sym (plus_none sector)) r;
        }
