-- The order in which faults are looked for.
use Rattle.std.proofs.Common.{◌≡◌, ◌≢◌, ℕ, ◌<◌, ◌≤◌, true, List, length, get_or, refl, subst, arith}
use Rattle.std.specs.List.{All}
use Rattle.std.proofs.lemmas.Bool.{both_ways}
use Rattle.md_cert.specs.declared.table.Row.{Row}
use Rattle.md_cert.specs.declared.slots.Slot.{Slot}
use Rattle.md_cert.specs.declared.plan.Plan.{Plan}
use Rattle.md_cert.specs.declared.plan.Certificate.{Certificate}
use Rattle.md_cert.specs.declared.verdict.Verdict.{Verdict}
use Rattle.md_cert.specs.declared.verdict.Verdict.TheVariants.{Yes, NotRising, Forbidden, Uncovered, DoubleSlot, RoundTooLate, NotShort}
use Rattle.md_cert.specs.Sources.{has}
use Rattle.md_cert.specs.Tables.{mask_of_chunk}
use Rattle.md_cert.specs.Verdicts.{AreRising, IsVerdict, VerdictStands, order}
use Rattle.md_cert.specs.Plans.{Certifies, IsCertified, IsPlanned, NoRepeatBelow}
use Rattle.md_cert.proofs.Bits.{has_below}

-- no fault stands that is looked for before the n-th
abbrev pub Before : List Row → Plan → Certificate → ℕ → Type 0
Before table plan certificate n = (w : Verdict) → order w < n → VerdictStands table plan certificate w → ⊥

abbrev pub AllAllowed : List Row → List Slot → Type 0
AllAllowed table slots = All (λ s. has (mask_of_chunk table s.chunk) s.source ≡ true) slots

abbrev pub AllCovered : List Row → List Slot → Type 0
AllCovered table slots = All (λ r. r.mask ≢ 0 → IsPlanned slots r.chunk) table

abbrev pub AllInTime : ℕ → List Slot → Type 0
AllInTime rounds slots = All (λ s. s.round < rounds) slots

pub sources_within : (table : List Row) (slots : List Slot) → AllAllowed table slots → All (λ s. s.source < 32) slots
sources_within table slots allowed k d within = has_below (mask_of_chunk table (get_or slots k d).chunk) (get_or slots k d).source (allowed k d within)

some_row : Row
some_row = record { chunk = 0; mask = 0 }

some_slot : Slot
some_slot = record { chunk = 0; source = 0; round = 0 }

-- no fault stands that is looked for before the n-th, where each test before the n-th passed
none_before : (table : List Row) (plan : Plan) (certificate : Certificate) (n : ℕ) → n ≤ 7
    → (1 < n → AreRising plan certificate)
    → (2 < n → AllAllowed table plan.slots)
    → (3 < n → AllCovered table plan.slots)
    → (4 < n → NoRepeatBelow plan.slots plan.rounds (length plan.slots))
    → (5 < n → AllInTime plan.rounds plan.slots)
    → (6 < n → Certifies table plan certificate)
    → Before table plan certificate n
none_before table plan certificate n most rising allowed covered single in_time certified NotRising less stands = stands (rising less)
none_before table plan certificate n most rising allowed covered single in_time certified (Forbidden chunk) less stands =
    both_ways _ (stands.1.holds some_slot) (allowed less stands.0 some_slot stands.1.within)
none_before table plan certificate n most rising allowed covered single in_time certified (Uncovered chunk) less stands =
    let it = stands.1.holds some_row in it.1 (covered less stands.0 some_row stands.1.within it.0)
none_before table plan certificate n most rising allowed covered single in_time certified (DoubleSlot source round) less stands =
    single less source round stands.0 stands.1.within stands.1
none_before table plan certificate n most rising allowed covered single in_time certified (RoundTooLate chunk) less stands =
    let late = stands.1.holds some_slot in let early = in_time less stands.0 some_slot stands.1.within in omega (arith, late, early)
none_before table plan certificate n most rising allowed covered single in_time certified NotShort less stands = stands (certified less)
none_before table plan certificate n most rising allowed covered single in_time certified Yes less stands = omega arith

not_yet : {P : Type 0} (n : ℕ) {k : ℕ} → n ≤ k → k < n → P
not_yet n most less = absurd (omega arith)

module _ (table : List Row) (plan : Plan) (certificate : Certificate) where
  pub passed_3 : AreRising plan certificate → AllAllowed table plan.slots → Before table plan certificate 3
  passed_3 rising allowed =
      none_before table plan certificate 3 (omega arith) (λ less. rising) (λ less. allowed)
      (not_yet 3 (omega arith)) (not_yet 3 (omega arith)) (not_yet 3 (omega arith)) (not_yet 3 (omega arith))

  pub passed_4 : AreRising plan certificate → AllAllowed table plan.slots → AllCovered table plan.slots → Before table plan certificate 4
  passed_4 rising allowed covered =
      none_before table plan certificate 4 (omega arith) (λ less. rising) (λ less. allowed) (λ less. covered)
      (not_yet 4 (omega arith)) (not_yet 4 (omega arith)) (not_yet 4 (omega arith))

  pub passed_5 : AreRising plan certificate → AllAllowed table plan.slots → AllCovered table plan.slots → NoRepeatBelow plan.slots plan.rounds (length plan.slots) → Before table plan certificate 5
  passed_5 rising allowed covered single =
      none_before table plan certificate 5 (omega arith) (λ less. rising) (λ less. allowed) (λ less. covered) (λ less. single)
      (not_yet 5 (omega arith)) (not_yet 5 (omega arith))

  pub passed_6 : AreRising plan certificate → AllAllowed table plan.slots → AllCovered table plan.slots → NoRepeatBelow plan.slots plan.rounds (length plan.slots) → AllInTime plan.rounds plan.slots → Before table plan certificate 6
  passed_6 rising allowed covered single in_time =
      none_before table plan certificate 6 (omega arith) (λ less. rising) (λ less. allowed) (λ less. covered) (λ less. single)
      (λ less. in_time) (not_yet 6 (omega arith))

-- no fault of a certified plan stands
pub none_of : (table : List Row) (plan : Plan) (certificate : Certificate) → IsCertified table plan certificate → Before table plan certificate 7
none_of table plan certificate h =
    none_before table plan certificate 7 (omega arith) (λ less. (h.rising, h.certificate_rising)) (λ less. h.allowed) (λ less. h.covered)
    (λ less. h.single) (λ less. h.in_time) (λ less. h.certified)

-- what was found of rows, slots and a number of rounds that were handed out is so of the table and the plan
module _ (table : List Row) (plan : Plan) (certificate : Certificate) (rows : List Row) (slots : List Slot) (rounds : ℕ) (same_rows : rows ≡ table) (same_slots : slots ≡ plan.slots) (same_rounds : rounds ≡ plan.rounds) where
  at_plan : (P : List Row → List Slot → ℕ → Type 0) → P rows slots rounds → P table plan.slots plan.rounds
  at_plan P h = subst (λ x. P x plan.slots plan.rounds) same_rows (subst (λ x. P rows x plan.rounds) same_slots (subst (P rows slots) same_rounds h))

  pub verdict_of : (v : Verdict) → IsVerdict rows (record { slots = slots; rounds = rounds }) certificate v → IsVerdict table plan certificate v
  verdict_of v = at_plan (λ x y n. IsVerdict x (record { slots = y; rounds = n }) certificate v)

  pub certified_of : IsCertified rows (record { slots = slots; rounds = rounds }) certificate → IsCertified table plan certificate
  certified_of = at_plan (λ x y n. IsCertified x (record { slots = y; rounds = n }) certificate)

-- the same of the number of rounds alone
pub single_in : (slots : List Slot) (n rounds : ℕ) → n ≡ rounds → NoRepeatBelow slots n (length slots) → NoRepeatBelow slots rounds (length slots)
single_in slots n rounds same = subst (λ x. NoRepeatBelow slots x (length slots)) same

-- whatever verdict a certified plan has is yes
pub certified_yes : (table : List Row) (plan : Plan) (certificate : Certificate) → IsCertified table plan certificate → (v : Verdict) → IsVerdict table plan certificate v → v ≡ Yes
certified_yes table plan certificate h NotRising verdict = absurd (none_of table plan certificate h NotRising (omega arith) verdict.stands)
certified_yes table plan certificate h (Forbidden chunk) verdict = absurd (none_of table plan certificate h (Forbidden chunk) (omega arith) verdict.stands)
certified_yes table plan certificate h (Uncovered chunk) verdict = absurd (none_of table plan certificate h (Uncovered chunk) (omega arith) verdict.stands)
certified_yes table plan certificate h (DoubleSlot source round) verdict = absurd (none_of table plan certificate h (DoubleSlot source round) (omega arith) verdict.stands)
certified_yes table plan certificate h (RoundTooLate chunk) verdict = absurd (none_of table plan certificate h (RoundTooLate chunk) (omega arith) verdict.stands)
certified_yes table plan certificate h NotShort verdict = absurd (none_of table plan certificate h NotShort (omega arith) verdict.stands)
certified_yes table plan certificate h Yes verdict = refl
