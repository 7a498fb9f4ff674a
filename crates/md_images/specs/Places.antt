-- Where a read fails.
use Rattle.std.specs.Prelude.{ℕ, ◌+◌, ◌/◌, ◌<◌, ◌≤◌, ◌≡◌, List, ◌++◌, ◌∷◌, []}
use Rattle.md_device.specs.declared.fault_list.Fault.{Fault}

-- one of the sectors of the n bytes from a sector on has P
abbrev pub MeetsSector : (ℕ → Type 0) → ℕ → ℕ → Type 0
MeetsSector P sector n = (s : ℕ) × P s × (sector ≤ s) × (s < sector + n / 512)

-- one call more has failed, and has P
abbrev pub AddsOneFault : (Fault → Type 0) → List Fault → List Fault → Type 0
AddsOneFault P past now = (f : Fault) × P f × (now ≡ past ++ f ∷ [])
