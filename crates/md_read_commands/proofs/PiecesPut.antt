-- Pieces are put out, each once it is read.
use Rattle.std.proofs.Common.{◌≡◌, ◌∙◌, inl, inr, ⊎_elim, ℕ, ◌+◌, ◌*◌, ◌-◌, ◌/◌, ◌%◌, ◌<◌, ◌≤◌, true, List, [], ◌++◌, length, take, refl, sym, subst, arith, length-append, append-nil}
use Rattle.std.specs.Prelude.{MatchResult, Result, Ok, Err}
use Rattle.md_array.specs.Consistency.{IsConsistent}
use Rattle.md_streams.specs.declared.sink.Sink.{Ghosts}
use Rattle.md_streams.specs.Sink.{Flushes, Puts}
use Rattle.md_streams.specs.Putting.{PutsOut}
use Rattle.md_streams.proofs.Puts.{puts_nothing, puts_then}
use Rattle.md_state.specs.View.{MirrorView}
use Rattle.md_refusals.specs.declared.fault.CommandFault.{CommandFault}
use Rattle.md_refusals.specs.declared.fault.CommandFault.TheVariants.{OutputFault}
use Rattle.md_read_commands.specs.declared.way.Way.{Way}
use Rattle.md_refusals.specs.Output.{FailsOutput}
use Rattle.md_read_commands.specs.Pieces.{PutsFront, PutsPiece, PutsPieceUpTo, PutsSectors, ReadsSectors, ReadsUpTo, RefusesPiece, RefusesSectors, piece_sectors}
use Rattle.md_read_commands.specs.Ways.{EndsReading, ReadsBy}
use Rattle.md_read_commands.proofs.PiecesRead.{nothing_read, one_read, read_up_to, sectors_read}
use Rattle.md_read_commands.proofs.Ways.{by_reason}

module _ {S : Type 0} (o : Ghosts S) (way : Way) (sector : ℕ) where
  -- so many sectors were read and put out
  pub record PutsSoFar (sectors : ℕ) (old new : MirrorView) (before after : S) : Type 0 where
    pub bytes : List ℕ
    pub many : length bytes ≡ 512 * sectors
    pub reads : ReadsSectors way sector bytes old new
    pub puts : Puts o.contents o.failed before after bytes

  pub puts_first : (v : MirrorView) (out : S) → PutsSoFar 0 v v out out
  puts_first v out = record { bytes = []; many = refl; reads = nothing_read way sector v; puts = puts_nothing o.contents o.failed out }

  -- a sector of the range was not read
  pub ends_early : (count s : ℕ) (old new : MirrorView) (before after : S) (at : ℕ) (piece : List ℕ) (mid : MirrorView) (reason : CommandFault) → EndsReading way at s piece mid new reason
      → PutsFront o way sector count s reason old new before after → RefusesSectors o way sector count old new before after reason
  ends_early count s old new before after at piece mid reason ends =
      by_reason (λ f. PutsFront o way sector count s f old new before after → RefusesSectors o way sector count old new before after f) (λ t h. (s, h)) (λ k c h. (s, h))
      way at s piece mid new reason ends

  pub piece_ends : (at s : ℕ) (piece : List ℕ) (old new : MirrorView) (before after : S) (reason : CommandFault) (ends : EndsReading way at s piece old new reason)
      → PutsOut o before after (take (512 * (s - at)) piece) → RefusesPiece o way at piece old new before after reason
  piece_ends at s piece old new before after reason ends shown =
      by_reason (λ f. PutsPieceUpTo o way at s f piece old new before after → RefusesPiece o way at piece old new before after f) (λ t h. (s, h)) (λ k c h. (s, h))
      way at s piece old new reason ends (record { ends = ends; shown = shown })

  module _ (old new : MirrorView) (before after : S) where
    -- the end of the range
    pub puts_all : (count : ℕ) (last : S) → PutsSoFar count old new before last → Flushes o.contents o.failed o.is_flushed last after → PutsSectors o way sector count old new before after
    puts_all count last so_far flushes = record {
      bytes = so_far.bytes;
      many = so_far.many;
      reads = so_far.reads;
      shown = record {
        puts = subst (λ (b : List ℕ). Puts o.contents o.failed before after b) (append-nil so_far.bytes) (puts_then o.contents o.failed so_far.puts flushes.puts);
        flushed = flushes.flushed;
      };
    }

    pub not_flushed : (count : ℕ) (last : S) → PutsSoFar count old new before last → o.failed after ≡ true → RefusesSectors o way sector count old new before after OutputFault
    not_flushed count last so_far failed = let many = so_far.many in (inl (so_far.bytes, omega arith, so_far.reads), failed)

  -- ---- one piece more
  module _ (old mid new : MirrorView) (sound : IsConsistent old) (before between after : S) (done sectors : ℕ) (few : sectors ≤ piece_sectors) (piece : List ℕ) (long : length piece ≡ 512 * sectors)
      (so_far : PutsSoFar done old mid before between) where
    abbrev b : List ℕ
    b = so_far.bytes

    here : sector + done ≡ sector + length b / 512
    here = let many = so_far.many in omega arith

    whole : length b % 512 ≡ 0
    whole = let many = so_far.many in omega arith

    more : ReadsBy way (sector + done) piece mid new → ReadsSectors way sector (b ++ piece) old new
    more reads = sectors_read way old mid new sound sector b piece so_far.reads whole
        (record { whole = omega arith; few = omega arith; reads = subst (λ (s : ℕ). ReadsBy way s piece mid new) here reads })

    pub puts_more : PutsPiece o way (sector + done) piece mid new between after → PutsSoFar (done + sectors) old new before after
    puts_more puts = record {
      bytes = b ++ piece;
      many = let many = so_far.many in length-append b piece ∙ omega arith;
      reads = more puts.reads;
      puts = puts_then o.contents o.failed so_far.puts puts.puts;
    }

    module _ (still : IsConsistent mid) (count : ℕ) (within : done + sectors ≤ count) (longer : piece_sectors < count) where
      fits : length b + length piece ≤ 512 * count
      fits = let many = so_far.many in omega arith

      up_to : (s : ℕ) (reason : CommandFault) → EndsReading way (sector + done) s piece mid new reason
          → ReadsUpTo way sector count s reason (b ++ take (512 * (s - (sector + length b / 512))) piece) old new
      up_to s reason ends = read_up_to way old mid new sound sector still count s reason b piece so_far.reads whole (subst (λ (x : ℕ). EndsReading way x s piece mid new reason) here ends) fits

      front_put : (s : ℕ) (reason : CommandFault) → PutsPieceUpTo o way (sector + done) s reason piece mid new between after → RefusesSectors o way sector count old new before after reason
      front_put s reason h = ends_early count s old new before after (sector + done) piece mid reason h.ends (record {
        bytes = b ++ take (512 * (s - (sector + length b / 512))) piece;
        reads = up_to s reason h.ends;
        short = λ few. absurd (omega arith);
        long = λ longer. record {
          puts = puts_then o.contents o.failed so_far.puts (subst (λ (x : ℕ). Puts o.contents o.failed between after (take (512 * (s - x)) piece)) here h.shown.puts);
          flushed = h.shown.flushed;
        };
      })

      pub refuses_more : (fault : CommandFault) → RefusesPiece o way (sector + done) piece mid new between after fault → RefusesSectors o way sector count old new before after fault
      refuses_more OutputFault h = (
        ⊎_elim
            (λ (reads : ReadsBy way (sector + done) piece mid new). inl (b ++ piece, let long = length-append b piece in let all = fits in omega arith, more reads))
            (λ ends. inr (ends.0, ends.1, b ++ take (512 * (ends.0 - (sector + length b / 512))) piece, up_to ends.0 ends.1 ends.2))
            h.0,
        h.1,
      )
      refuses_more reason h = front_put h.0 reason h.1

  -- ---- a range of one piece
  module _ (old new : MirrorView) (sound : IsConsistent old) (before : S) (piece : List ℕ) (whole : length piece % 512 ≡ 0) (few : length piece / 512 ≤ piece_sectors) where
    one : ReadsBy way sector piece old new → ReadsSectors way sector piece old new
    one reads = one_read way sector piece old new (record { whole = whole; few = omega arith; reads = reads })

    pub put_or_not : ReadsBy way sector piece old new → (after : S) (result : Result (Unit {0}) CommandFault) → MatchResult result (λ _. PutsOut o before after piece) (FailsOutput o after)
        → MatchResult result (λ _. PutsSectors o way sector (length piece / 512) old new before after) (RefusesSectors o way sector (length piece / 512) old new before after)
    put_or_not reads after (Ok x) shown = record { bytes = piece; many = omega arith; reads = one reads; shown = shown }
    put_or_not reads after (Err fault) fails =
        subst (λ (f : CommandFault). RefusesSectors o way sector (length piece / 512) old new before after f) (sym fails.is) (inl (piece, omega arith, one reads), fails.failed)

    pub one_unread : (s : ℕ) (reason : CommandFault) → EndsReading way sector s piece old new reason → RefusesSectors o way sector (length piece / 512) old new before before reason
    one_unread s reason ends = ends_early (length piece / 512) s old new before before sector piece old reason ends (record {
      bytes = take (512 * (s - sector)) piece;
      reads =
          let here : sector + 0 / 512 ≡ sector = omega arith in
          let none : sector ≡ sector + 0 / 512 = omega arith in
          subst (λ (x : ℕ). ReadsUpTo way sector (length piece / 512) s reason (take (512 * (s - x)) piece) old new) here
          (read_up_to way old old new sound sector sound (length piece / 512) s reason [] piece (nothing_read way sector old) refl (subst (λ (x : ℕ). EndsReading way x s piece old new reason) none ends) (omega arith));
      short = λ few. refl;
      long = λ longer. absurd (omega arith);
    })
