-- Pieces mark the chunks that one write of all their sectors marks.
use Rattle.std.proofs.Common.{◌≡◌, ◌∙◌, ℕ, ◌+◌, ◌-◌, ◌/◌, ◌<◌, ◌≤◌, inl, inr, Bool, ◌&&◌, ◌||◌, sym, ap, subst, arith, add_assoc}
use Rattle.std.specs.Prelude.{nat_le}
use Rattle.std.proofs.Math.Bool.{or_assoc, or_self}
use Rattle.std.proofs.Math.Nat.{div-le_of_le-mul, div-zero, lt-mul-div-succ}
use Rattle.std.proofs.lemmas.Bool.{cases_lt}
use Rattle.std.proofs.lemmas.Bool.Decides.{nat_tests}
use Rattle.md_bitmap.specs.declared.chunks.Chunks.{Chunks}
use Rattle.md_bitmap.specs.Marks.{Bitmap, is_set}
use Rattle.md_state.specs.Steps.Begin.{HasMarked, has_sector_of}
use Rattle.md_state.specs.View.{ArrayView}
use Rattle.md_state.proofs.Changes.RequestChunks.{div_mono}

-- of two ranges of chunks, the second of which begins in the last one of the first, or after it
ranges_joined : (a b d e c : ℕ) → a ≤ b → b ≤ d → d ≤ e → d ≤ b + 1 → ((nat_le a c && nat_le c b) || (nat_le d c && nat_le c e)) ≡ (nat_le a c && nat_le c e)
ranges_joined a b d e c ab bd de near = grind (arith, nat_tests)

-- the chunk of the next sector
next_chunk : (w s : ℕ) → 0 < w → (s + 1) / w ≤ s / w + 1
next_chunk w s wide = div-le_of_le-mul w {m = s + 1} {n = s / w + 1} (let below = lt-mul-div-succ s {b = w} wide in omega arith)

sectors_joined : (w s m n c : ℕ) → 0 < m → 0 < n
    → ((nat_le (s / w) c && nat_le c (((s + m) - 1) / w)) || (nat_le ((s + m) / w) c && nat_le c (((s + m + n) - 1) / w))) ≡ (nat_le (s / w) c && nat_le c (((s + (m + n)) - 1) / w))
sectors_joined w s m n c some more = elim (cases_lt 0 w) [
  | inl wide ↦
      let last : s + m ≡ ((s + m) - 1) + 1 = omega arith in
      ranges_joined (s / w) (((s + m) - 1) / w) ((s + m) / w) (((s + m + n) - 1) / w) c
      (div_mono w s ((s + m) - 1) wide (omega arith)) (div_mono w ((s + m) - 1) (s + m) wide (omega arith)) (div_mono w (s + m) ((s + m + n) - 1) wide (omega arith))
      (subst (λ (x : ℕ). x / w ≤ ((s + m) - 1) / w + 1) (sym last) (next_chunk w ((s + m) - 1) wide)) ∙ ap (λ (x : ℕ). nat_le (s / w) c && nat_le c ((x - 1) / w)) (add_assoc s m n)
  | inr none ↦
      let is : w ≡ 0 = omega arith in
      let P : ℕ → Type 0 = λ v. ((nat_le (s / v) c && nat_le c (((s + m) - 1) / v)) || (nat_le ((s + m) / v) c && nat_le c (((s + m + n) - 1) / v))) ≡ (nat_le (s / v) c && nat_le c (((s + (m + n)) - 1) / v)) in
      subst P (sym is) (rw (div-zero s, div-zero ((s + m) - 1), div-zero (s + m), div-zero ((s + m + n) - 1), div-zero ((s + (m + n)) - 1)) (or_self (nat_le 0 c && nat_le c 0)))
]

pub marked_more : (a b : ArrayView) (sector m n : ℕ) (new : Bitmap) → 0 < m → 0 < n → b.chunks ≡ a.chunks → HasMarked a sector m b.marks → HasMarked b (sector + m) n new
    → HasMarked a sector (m + n) new
marked_more a b sector m n new some more same first next = record {
  chunks = next.chunks ∙ first.chunks;
  bits = λ c.
      let there = subst (λ (k : Chunks). is_set new.bytes c ≡ (is_set b.marks.bytes c || (nat_le ((sector + m) / k.sectors) c && nat_le c (((sector + m + n) - 1) / k.sectors)))) same (next.bits c) in
      let here = ap (λ (x : Bool). x || has_sector_of a (sector + m) n c) (first.bits c) in
      let split = or_assoc (is_set a.marks.bytes c) (has_sector_of a sector m c) (has_sector_of a (sector + m) n c) in
      there ∙ here ∙ split ∙ ap (λ (x : Bool). is_set a.marks.bytes c || x) (sectors_joined a.chunks.sectors sector m n c some more);
}
