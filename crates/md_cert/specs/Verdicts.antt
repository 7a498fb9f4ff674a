-- What can be wrong with a plan and its certificate, and in which order that is looked for.
use Rattle.std.specs.Prelude.{◌≡◌, ◌≢◌, ℕ, ◌<◌, ◌≤◌, false, List, length}
use Rattle.std.specs.List.{AllWithin, HoldsAt}
use Rattle.md_cert.specs.declared.table.Row.{Row}
use Rattle.md_cert.specs.declared.slots.Slot.{Slot}
use Rattle.md_cert.specs.declared.plan.Plan.{Plan}
use Rattle.md_cert.specs.declared.plan.Certificate.{Certificate}
use Rattle.md_cert.specs.declared.verdict.Verdict.{Verdict}
use Rattle.md_cert.specs.declared.verdict.Verdict.TheVariants.{Yes, NotRising, Forbidden, Uncovered, DoubleSlot, RoundTooLate, NotShort}
use Rattle.md_cert.specs.Plans.{Certifies, ChunksRise, IsPlanned, IsRepeat, NoRepeatBelow, SlotsRise}
use Rattle.md_cert.specs.Sources.{has}
use Rattle.md_cert.specs.Tables.{mask_of_chunk}

-- the index of the first element of which the fact holds
pub record IsFirstAt {X : Type 0} (Fact : X → Type 0) (xs : List X) (at : ℕ) : Type 0 where
  pub within : at < length xs
  pub holds : HoldsAt Fact xs at
  pub first : AllWithin (λ x. Fact x → ⊥) xs 0 at

-- the chunk of the first slot of which the fact holds
abbrev pub IsFirstSlot : (Slot → Type 0) → List Slot → ℕ → Type 0
IsFirstSlot Fact slots chunk =
    (at : ℕ) × IsFirstAt Fact slots at × HoldsAt (λ s. s.chunk ≡ chunk) slots at

-- the chunk of the first row of which the fact holds
abbrev pub IsFirstChunk : (Row → Type 0) → List Row → ℕ → Type 0
IsFirstChunk Fact table chunk =
    (at : ℕ) × IsFirstAt Fact table at × HoldsAt (λ r. r.chunk ≡ chunk) table at

abbrev pub AreRising : Plan → Certificate → Type 0
AreRising plan certificate = SlotsRise plan.slots × ChunksRise certificate.chunks

-- the table does not have the chunk, or its mask does not have the source
abbrev pub IsForbidden : List Row → Slot → Type 0
IsForbidden table slot = has (mask_of_chunk table slot.chunk) slot.source ≡ false

-- some source may give the chunk, and no slot has it
abbrev pub IsUncovered : List Slot → Row → Type 0
IsUncovered slots row = (row.mask ≢ 0) × (IsPlanned slots row.chunk → ⊥)

abbrev pub IsTooLate : ℕ → Slot → Type 0
IsTooLate rounds slot = rounds ≤ slot.round

-- the fault stands, at its first place
abbrev pub VerdictStands : List Row → Plan → Certificate → Verdict → Type 0
VerdictStands table plan certificate NotRising = AreRising plan certificate → ⊥
VerdictStands table plan certificate (Forbidden chunk) = IsFirstSlot (IsForbidden table) plan.slots chunk
VerdictStands table plan certificate (Uncovered chunk) = IsFirstChunk (IsUncovered plan.slots) table chunk
VerdictStands table plan certificate (DoubleSlot source round) =
    (at : ℕ) × IsRepeat plan.slots plan.rounds source round at × NoRepeatBelow plan.slots plan.rounds at
VerdictStands table plan certificate (RoundTooLate chunk) = IsFirstSlot (IsTooLate plan.rounds) plan.slots chunk
VerdictStands table plan certificate NotShort = Certifies table plan certificate → ⊥
VerdictStands table plan certificate Yes = Unit {0}

-- the order in which the faults are looked for; Yes comes after all of them
abbrev pub order : Verdict → ℕ
order NotRising = 1
order (Forbidden chunk) = 2
order (Uncovered chunk) = 3
order (DoubleSlot source round) = 4
order (RoundTooLate chunk) = 5
order NotShort = 6
order Yes = 7

-- the verdict: it stands, and nothing stands that is looked for before it
pub record IsVerdict (table : List Row) (plan : Plan) (certificate : Certificate) (v : Verdict) : Type 0 where
  pub stands : VerdictStands table plan certificate v
  pub first : (w : Verdict) → order w < order v → VerdictStands table plan certificate w → ⊥
