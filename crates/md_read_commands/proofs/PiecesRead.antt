-- Pieces that are read one after another are together what one read gives.
use Rattle.std.proofs.Common.{◌≡◌, ◌∙◌, ℕ, ◌+◌, ◌*◌, ◌-◌, ◌/◌, ◌%◌, ◌<◌, ◌≤◌, List, [], ◌∷◌, ◌++◌, length, take, refl, sym, ap, subst, inl, inr, arith, length-append, append_assoc, append-nil}
use Rattle.std.specs.List.{concat}
use Rattle.std.proofs.lemmas.Bool.{cases_lt}
use Rattle.md_array.specs.Consistency.{IsConsistent}
use Rattle.md_state.specs.View.{MirrorView}
use Rattle.md_refusals.specs.declared.fault.CommandFault.{CommandFault}
use Rattle.md_read_commands.specs.declared.way.Way.{Way}
use Rattle.md_read_commands.specs.Pieces.{ReadsPiece, ReadsPieces, ReadsSectors, ReadsUpTo}
use Rattle.md_read_commands.specs.Ways.{EndsReading, ReadsBy}
use Rattle.md_read_commands.proofs.Ways.{Ends, both_read, ends_there, reads_later, reads_some}

-- ---- pieces
concat_more : (pieces : List (List ℕ)) (piece : List ℕ) → concat (pieces ++ piece ∷ []) ≡ concat pieces ++ piece
concat_more [] piece = append-nil piece
concat_more (p ∷ pieces) piece = ap (λ (l : List ℕ). p ++ l) (concat_more pieces piece) ∙ sym (append_assoc p (concat pieces) piece)

module _ (way : Way) where
  none_read : (sector : ℕ) (pieces : List (List ℕ)) (old new : MirrorView) → ReadsPieces way sector pieces old new → length (concat pieces) ≡ 0 → new ≡ old
  none_read sector [] old new same none = same
  none_read sector (piece ∷ pieces) old new h none =
      let some = reads_some way sector piece old h.0 h.1.reads in
      let long = length-append piece (concat pieces) in
      absurd (omega arith)

  pieces_more : (sector : ℕ) (pieces : List (List ℕ)) (piece : List ℕ) (old mid new : MirrorView) → ReadsPieces way sector pieces old mid
      → ReadsPiece way (sector + length (concat pieces) / 512) piece mid new → ReadsPieces way sector (pieces ++ piece ∷ []) old new
  pieces_more sector [] piece old mid new same reads =
      let here : sector + 0 / 512 ≡ sector = omega arith in
      (new, subst (λ (v : MirrorView). ReadsPiece way sector piece v new) same (subst (λ (s : ℕ). ReadsPiece way s piece mid new) here reads), refl)
  pieces_more sector (p ∷ pieces) piece old mid new h reads =
      let whole = h.1.whole in
      let long = length-append p (concat pieces) in
      let here : sector + length (p ++ concat pieces) / 512 ≡ sector + length p / 512 + length (concat pieces) / 512 = omega arith in
      (h.0, h.1, pieces_more (sector + length p / 512) pieces piece h.0 mid new h.2 (subst (λ (s : ℕ). ReadsPiece way s piece mid new) here reads))

  -- the first piece, where there is none before
  pub nothing_read : (sector : ℕ) (v : MirrorView) → ReadsSectors way sector [] v v
  nothing_read sector v = record { pieces = []; joined = refl; each = refl; as_one = λ some. absurd (omega arith) }

  pub one_read : (sector : ℕ) (piece : List ℕ) (old new : MirrorView) → ReadsPiece way sector piece old new → ReadsSectors way sector piece old new
  one_read sector piece old new reads = record {
    pieces = piece ∷ [];
    joined = sym (append-nil piece);
    each = (new, reads, refl);
    as_one = λ some. reads.reads;
  }

  module _ (old mid new : MirrorView) (sound : IsConsistent old) (sector : ℕ) where
    then_read : (bytes piece : List ℕ) → ReadsSectors way sector bytes old mid → length bytes % 512 ≡ 0 → ReadsBy way (sector + length bytes / 512) piece mid new
        → ReadsBy way sector (bytes ++ piece) old new
    then_read [] piece so_far whole reads =
        let same : mid ≡ old = none_read sector so_far.pieces old mid so_far.each (ap length (sym so_far.joined)) in
        let here : sector + 0 / 512 ≡ sector = omega arith in
        subst (λ (v : MirrorView). ReadsBy way sector piece v new) same (subst (λ (s : ℕ). ReadsBy way s piece mid new) here reads)
    then_read (b ∷ bytes) piece so_far whole reads = both_read old mid new sound sector (b ∷ bytes) piece whole way (so_far.as_one (omega arith)) reads

    pub sectors_read : (bytes piece : List ℕ) → ReadsSectors way sector bytes old mid → length bytes % 512 ≡ 0 → ReadsPiece way (sector + length bytes / 512) piece mid new
        → ReadsSectors way sector (bytes ++ piece) old new
    sectors_read bytes piece so_far whole reads = record {
      pieces = so_far.pieces ++ piece ∷ [];
      joined = ap (λ (l : List ℕ). l ++ piece) so_far.joined ∙ sym (concat_more so_far.pieces piece);
      each = pieces_more sector so_far.pieces piece old mid new so_far.each
          (subst (λ (l : List ℕ). ReadsPiece way (sector + length l / 512) piece mid new) so_far.joined reads);
      as_one = λ some. then_read bytes piece so_far whole reads.reads;
    }

    module _ (still : IsConsistent mid) (count s : ℕ) (reason : CommandFault) (bytes piece : List ℕ) (so_far : ReadsSectors way sector bytes old mid) (whole : length bytes % 512 ≡ 0)
        (ends : EndsReading way (sector + length bytes / 512) s piece mid new reason) where
      abbrev at : ℕ
      at = sector + length bytes / 512

      there : Ends at s piece mid new way
      there = ends_there mid new still at s piece way reason ends

      -- what it gave of the piece
      abbrev given_front : List ℕ
      given_front = take (512 * (s - at)) piece

      up_to_one : sector < s → ReadsBy way sector (bytes ++ given_front) old new
      up_to_one some = elim (cases_lt at s) [
        | inl inside ↦ then_read bytes given_front so_far whole (there.front inside)
        | inr none ↦
            let from = there.from in
            let zero : 512 * (s - at) ≡ 0 = omega arith in
            let empty : bytes ++ given_front ≡ bytes = ap (λ (n : ℕ). bytes ++ take n piece) zero ∙ append-nil bytes in
            subst (λ (l : List ℕ). ReadsBy way sector l old new) (sym empty) (reads_later way old mid new sector bytes (so_far.as_one (omega arith)) there.rests)
      ]

      pub read_up_to : length bytes + length piece ≤ 512 * count → ReadsUpTo way sector count s reason (bytes ++ take (512 * (s - (sector + length bytes / 512))) piece) old new
      read_up_to within = record {
        mid = mid;
        done = bytes;
        reads = so_far;
        piece = piece;
        ends = ends;
        within = within;
        is =
            let from = there.from in
            let same : 512 * (s - at) ≡ 512 * (s - sector) - length bytes = omega arith in
            ap (λ (n : ℕ). bytes ++ take n piece) same;
        as_one = up_to_one;
      }
