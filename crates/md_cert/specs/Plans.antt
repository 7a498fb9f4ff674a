-- Plans of a table, and what a certificate shows of them.
use Rattle.std.specs.Prelude.{◌≡◌, ◌≢◌, ◌⊎◌, ℕ, ◌+◌, ◌<◌, true, List, [], length, All}
use Rattle.std.specs.List.{AllPairs, Any, HoldsAt}
use Rattle.md_cert.specs.declared.table.Row.{Row}
use Rattle.md_cert.specs.declared.slots.Slot.{Slot}
use Rattle.md_cert.specs.declared.plan.Plan.{Plan}
use Rattle.md_cert.specs.declared.plan.Certificate.{Certificate}
use Rattle.md_cert.specs.Assignments.{IsShort}
use Rattle.md_cert.specs.Sources.{has}
use Rattle.md_cert.specs.Tables.{mask_of_chunk}

-- each slot's chunk is below those of all later slots
abbrev pub SlotsRise : List Slot → Type 0
SlotsRise slots = AllPairs (λ a b. a.chunk < b.chunk) slots

abbrev pub ChunksRise : List ℕ → Type 0
ChunksRise chunks = AllPairs (λ a b. a < b) chunks

-- a slot has the chunk
abbrev pub IsPlanned : List Slot → ℕ → Type 0
IsPlanned slots chunk = Any (λ s. s.chunk ≡ chunk) slots

-- a slot's turn: its source and its round
abbrev pub HasTurn : ℕ → ℕ → Slot → Type 0
HasTurn source round slot = (slot.source ≡ source) × (slot.round ≡ round)

-- the slot at an index has this turn, in a round of the plan, and so has an earlier slot
pub record IsRepeat (slots : List Slot) (rounds : ℕ) (source round : ℕ) (at : ℕ) : Type 0 where
  pub within : at < length slots
  pub in_time : round < rounds
  pub turn : HoldsAt (HasTurn source round) slots at
  pub earlier : ℕ
  pub before : earlier < at
  pub same : HoldsAt (HasTurn source round) slots earlier

-- no slot below the index has the turn of an earlier one
abbrev pub NoRepeatBelow : List Slot → ℕ → ℕ → Type 0
NoRepeatBelow slots rounds n =
    (source round at : ℕ) → at < n → IsRepeat slots rounds source round at → ⊥

-- the certificate shows that one round less is too few; of no rounds it has nothing to show
abbrev pub Certifies : List Row → Plan → Certificate → Type 0
Certifies table plan certificate =
    ((plan.rounds ≡ 0) × (certificate.rounds ≡ 0) × (certificate.chunks ≡ []))
    ⊎ ((plan.rounds ≡ certificate.rounds + 1) × IsShort table certificate.chunks certificate.rounds)

-- a plan of the table, and a certificate for it
pub record IsCertified (table : List Row) (plan : Plan) (certificate : Certificate) : Type 0 where
  pub rising : SlotsRise plan.slots
  pub certificate_rising : ChunksRise certificate.chunks
  pub allowed : All (λ s. has (mask_of_chunk table s.chunk) s.source ≡ true) plan.slots
  pub covered : All (λ r. r.mask ≢ 0 → IsPlanned plan.slots r.chunk) table
  pub single : NoRepeatBelow plan.slots plan.rounds (length plan.slots)
  pub in_time : All (λ s. s.round < plan.rounds) plan.slots
  pub certified : Certifies table plan certificate
