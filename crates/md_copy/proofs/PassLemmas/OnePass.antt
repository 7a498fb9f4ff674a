-- What a pass's plan says of a chunk.
use Rattle.std.proofs.Common.{◌≡◌, ◌≢◌, ◌∙◌, ◌↔◌, ℕ, ◌<◌, ◌==◌, nat_lt, true, List, get_or, Contains, refl, ap, sym, subst, arith, inl, inr}
use Rattle.std.specs.Int.{bit_at}
use Rattle.std.proofs.lemmas.Bool.{and_parts, both_ways, cases_lt, eqb-true}
use Rattle.std.proofs.lemmas.Bool.Decides.{nat_tests}
use Rattle.std.proofs.lemmas.List.{get_or_default}
use Rattle.std.proofs.lemmas.List.Elements.{All-contains, Contains-get_or}
use Rattle.md_cert.specs.declared.table.Row.{Row}
use Rattle.md_cert.specs.declared.slots.Slot.{Slot}
use Rattle.md_cert.specs.Plans.{IsPlanned, SlotsRise}
use Rattle.md_cert.specs.Sources.{has}
use Rattle.md_cert.specs.Tables.{chunks_of_rows, mask_of_chunk}
use Rattle.md_cert.proofs.Bits.{has_below, has_zero}
use Rattle.md_cert.proofs.Masks.{row_of}
use Rattle.md_copy.specs.PassLaws.Passes.{IsPassOf, PassView, slots_of_pass}
use Rattle.md_copy.proofs.PassLemmas.Kept.{mapped, mapped_from}

has_bit : (mask source : ℕ) → has mask source ≡ true → bit_at mask source ≡ 1
unfolding has
has_bit mask source it = eqb-true (bit_at mask source) 1 (and_parts (nat_lt source 32) (bit_at mask source == 1) it).1

bit_has : (mask role : ℕ) → role < 32 → bit_at mask role ≡ 1 → has mask role ≡ true
unfolding has
bit_has mask role small is = let low : nat_lt role 32 ≡ true = grind (arith, nat_tests) in rw (low, is) refl

zero_bit : (role : ℕ) → role < 32 → bit_at 0 role ≡ 1 → ⊥
zero_bit role small is = both_ways (has 0 role) (has_zero role) (bit_has 0 role small is)

-- two slots of a plan that have one chunk are one
pub one_slot : (slots : List Slot) → SlotsRise slots → (a b : Slot) → Contains slots a → Contains slots b → a.chunk ≡ b.chunk → a ≡ b
one_slot slots rise a b (i, wi, ia) (j, wj, jb) e =
    elim (cases_lt i j) [
      | inl less ↦ let up = rise i j a less wj in let x = ap (λ (s : Slot). s.chunk) ia in let y = ap (λ (s : Slot). s.chunk) (get_or_default slots j a b wj ∙ jb) in absurd (omega (arith, up, x, y, e))
      | inr from ↦
          elim (cases_lt j i) [
            | inl less ↦ let up = rise j i b less wi in let x = ap (λ (s : Slot). s.chunk) jb in let y = ap (λ (s : Slot). s.chunk) (get_or_default slots i b a wi ∙ ia) in absurd (omega (arith, up, x, y, e))
            | inr to ↦ let same : i ≡ j = omega arith in sym ia ∙ ap (λ n. get_or slots n a) same ∙ get_or_default slots j a b wj ∙ jb
          ]
    ]

module _ {A : Type 0} {Serves Permitted : A → ℕ → ℕ → Type 0} {Lists : List Slot → A → A → Type 0} {a : A} {chunks : List ℕ} {p : PassView} (is : IsPassOf Serves Permitted Lists a chunks p) where
  no_row : Row
  no_row = record { chunk = 0; mask = 0 }

  -- each slot's source is permitted
  pub slot_permitted : (s : Slot) → Contains (slots_of_pass p) s → Permitted a s.chunk s.source
  slot_permitted s there =
      let it : has (mask_of_chunk is.rows s.chunk) s.source ≡ true = All-contains (λ (x : Slot). has (mask_of_chunk is.rows x.chunk) x.source ≡ true) (slots_of_pass p) s is.certified.allowed there in
      let small = has_below (mask_of_chunk is.rows s.chunk) s.source it in
      let row = row_of is.rows s.chunk (λ none. both_ways (has (mask_of_chunk is.rows s.chunk) s.source) (ap (λ n. has n s.source) none ∙ has_zero s.source) it) in
      let bit : bit_at (get_or is.rows row.at no_row).mask s.source ≡ 1 = ap (λ n. bit_at n s.source) (row.mask no_row) ∙ has_bit (mask_of_chunk is.rows s.chunk) s.source it in
      subst (λ c. Permitted a c s.source) (row.is no_row) ((is.sources row.at no_row row.within s.source small).0 bit)

  -- and its chunk is of the table
  pub slot_within : (s : Slot) → Contains (slots_of_pass p) s → Contains chunks s.chunk
  slot_within s there =
      let it : has (mask_of_chunk is.rows s.chunk) s.source ≡ true = All-contains (λ (x : Slot). has (mask_of_chunk is.rows x.chunk) x.source ≡ true) (slots_of_pass p) s is.certified.allowed there in
      let row = row_of is.rows s.chunk (λ none. both_ways (has (mask_of_chunk is.rows s.chunk) s.source) (ap (λ n. has n s.source) none ∙ has_zero s.source) it) in
      subst (λ xs. Contains xs s.chunk) is.chunks_are (subst (Contains (chunks_of_rows is.rows)) (row.is no_row) (mapped (λ (r : Row). r.chunk) is.rows (get_or is.rows row.at no_row) (Contains-get_or is.rows row.at no_row row.within)))

  -- a chunk of the table that is permitted somewhere has a slot
  pub permitted_planned : (c : ℕ) → Contains chunks c → (r : ℕ) → r < 32 → Permitted a c r → IsPlanned (slots_of_pass p) c
  permitted_planned c there r small may =
      let from = mapped_from (λ (x : Row). x.chunk) is.rows c (subst (λ xs. Contains xs c) (sym is.chunks_are) there) in
      let row : Row = from.x in
      let sources : (role : ℕ) → role < 32 → (bit_at row.mask role ≡ 1) ↔ Permitted a row.chunk role = All-contains (λ (x : Row). (role : ℕ) → role < 32 → (bit_at x.mask role ≡ 1) ↔ Permitted a x.chunk role) is.rows row is.sources from.there in
      let bit : bit_at row.mask r ≡ 1 = (sources r small).1 (subst (λ x. Permitted a x r) (sym from.is) may) in
      let covered : row.mask ≢ 0 → IsPlanned (slots_of_pass p) row.chunk = All-contains (λ (x : Row). x.mask ≢ 0 → IsPlanned (slots_of_pass p) x.chunk) is.rows row is.certified.covered from.there in
      subst (IsPlanned (slots_of_pass p)) from.is (covered (λ none. zero_bit r small (ap (λ n. bit_at n r) (sym none) ∙ bit)))

  -- a slot that failed is one of the plan
  pub failed_there : (s : Slot) → Contains p.failed s → Contains (slots_of_pass p) s
  failed_there s there = All-contains (Contains (slots_of_pass p)) p.failed s is.failed there
