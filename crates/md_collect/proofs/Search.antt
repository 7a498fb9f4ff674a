-- A rising list of slots is searched for a chunk.
use Rattle.std.proofs.Common.{◌≡◌, ℕ, ◌<◌, ◌≤◌, ◌==◌, ◌&&◌, Bool, true, false, ltb, inl, inr, List, length, get_or, refl, ap, sym, ◌∙◌, arith}
use Rattle.std.specs.List.Sorted.{IsPartitionPoint, IsPartitionedBy}
use Rattle.std.proofs.lemmas.Bool.{cases_lt, ltb-true, ltb-false}
use Rattle.std.proofs.lemmas.List.{get_or_default}
use Rattle.std.proofs.lemmas.List.Sorted.{IsPartitionedBy-ltb}
use Rattle.std.proofs.Math.Nat.{eq-or-lt_of_le}
use Rattle.std.proofs.lemmas.List.Folds.{list_any_none, list_any_at}
use Rattle.std.proofs.lemmas.Bool.Decides.{nat_tests}
use Rattle.std.proofs.lemmas.Grind.{common_steps}
use Rattle.md_cert.specs.declared.slots.Slot.{Slot}
use Rattle.md_bitmap.specs.declared.chunks.Chunks.{Chunks}
use Rattle.md_collect.specs.Reports.{is_planned}
use Rattle.md_collect.specs.Collecting.{ArePlanned, IsPlace}

-- the slot reads this chunk from this source
abbrev pub fits : ℕ → ℕ → Slot → Bool
fits chunk source slot = slot.chunk == chunk && slot.source == source

other : (chunk source : ℕ) (slot : Slot) → (slot.chunk == chunk) ≡ false → fits chunk source slot ≡ false
other chunk source slot e = grind (arith, common_steps)

not_equal : (m n : ℕ) → m < n → (m == n) ≡ false
not_equal m n h = grind (arith, nat_tests)

not_equal_up : (m n : ℕ) → n < m → (m == n) ≡ false
not_equal_up m n h = grind (arith, nat_tests)

-- the slot at the place has another chunk or another source
not_found : (chunks : Chunks) (slots : List Slot) (chunk source at : ℕ) (slot : Slot) → ArePlanned chunks slots → IsPlace slots chunk at → at < length slots → slot ≡ get_or slots at slot
    → fits chunk source slot ≡ false → is_planned slots chunk source ≡ false
not_found chunks slots chunk source at slot planned place here is fit = list_any_none (fits chunk source) slots each
  where
    each : (i : ℕ) (d : Slot) → i < length slots → fits chunk source (get_or slots i d) ≡ false
    each i d within =
        elim (cases_lt i at) [
          | inl below ↦ other chunk source (get_or slots i d) (not_equal _ _ (place.before i d below within))
          | inr up ↦
              elim (eq-or-lt_of_le up) [
                | inl same ↦ ap (fits chunk source) (get_or_default slots i d slot within ∙ ap (λ k. get_or slots k slot) (sym same) ∙ sym is) ∙ fit
                | inr above ↦
                    let rises : (get_or slots at d).chunk < (get_or slots i d).chunk = planned.rising at i d above within in
                    let first : chunk ≤ (get_or slots at d).chunk = place.after at d (omega arith) here in
                    other chunk source (get_or slots i d) (not_equal_up _ _ (omega arith))
              ]
        ]

-- what the slot at the place says
pub found : (chunks : Chunks) (slots : List Slot) (chunk source at : ℕ) (slot : Slot) → ArePlanned chunks slots → IsPlace slots chunk at → at < length slots → slot ≡ get_or slots at slot
    → fits chunk source slot ≡ is_planned slots chunk source
found chunks slots chunk source at slot planned place here is =
    by (fits chunk source slot) refl
  where
    by : (b : Bool) → fits chunk source slot ≡ b → fits chunk source slot ≡ is_planned slots chunk source
    by true e = e ∙ sym (list_any_at (fits chunk source) slots at slot here (ap (fits chunk source) (sym is) ∙ e))
    by false e = e ∙ sym (not_found chunks slots chunk source at slot planned place here is e)

-- no slot has such a chunk
pub none_found : (slots : List Slot) (chunk source at : ℕ) → IsPlace slots chunk at → length slots ≤ at → is_planned slots chunk source ≡ false
none_found slots chunk source at place over =
    list_any_none (fits chunk source) slots (λ i d within. other chunk source (get_or slots i d) (not_equal _ _ (place.before i d (omega arith) within)))

pub parted : (chunks : Chunks) (slots : List Slot) (chunk : ℕ) → ArePlanned chunks slots → IsPartitionedBy (λ slot. ltb slot.chunk chunk) slots
parted chunks slots chunk planned = IsPartitionedBy-ltb (λ slot. slot.chunk) slots chunk rising
  where
    rising : (i j : ℕ) (d : Slot) → i ≤ j → j < length slots → (get_or slots i d).chunk ≤ (get_or slots j d).chunk
    rising i j d le within =
        elim (eq-or-lt_of_le le) [
          | inl same ↦ let e : (get_or slots i d).chunk ≡ (get_or slots j d).chunk = ap (λ k. (get_or slots k d).chunk) same in omega arith
          | inr above ↦ let r = planned.rising i j d above within in omega arith
        ]

pub place : (chunks : Chunks) (slots : List Slot) (chunk at : ℕ) → IsPartitionPoint (λ slot. ltb slot.chunk chunk ≡ true) (λ slot. ltb slot.chunk chunk ≡ false) slots at → IsPlace slots chunk at
place chunks slots chunk at point = record {
  before = λ i d below within. ltb-true _ _ (point.0 i d (omega arith) below);
  after = λ i d from within. ltb-false _ _ (point.1 i d from within);
}

-- a slot that has the chunk is at its place
pub own_place : (chunks : Chunks) (slots : List Slot) (chunk at : ℕ) → ArePlanned chunks slots → at < length slots → ((d : Slot) → (get_or slots at d).chunk ≡ chunk) → IsPlace slots chunk at
own_place chunks slots chunk at planned here is = record {
  before = λ i d below within. let r = planned.rising i at d below here in let e = is d in omega arith;
  after = λ i d from within.
      elim (eq-or-lt_of_le from) [
        | inl same ↦ let e : (get_or slots i d).chunk ≡ chunk = ap (λ k. (get_or slots k d).chunk) (sym same) ∙ is d in omega arith
        | inr above ↦ let r = planned.rising at i d above within in let e = is d in omega arith
      ];
}
