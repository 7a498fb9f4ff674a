-- The length of an input that is known before it is read.
use Rattle.std.specs.Prelude.{◌≡◌, ◌≢◌, ◌⊎◌, ℕ, ◌*◌, ◌/◌, ◌^◌, ◌≤◌, true, Option, Some, None}
use Rattle.md_faults.specs.declared.step_fault.BeginFault.TheVariants as begin
use Rattle.md_state.specs.Steps.Begin.{IsInRange}
use Rattle.md_state.specs.View.{ArrayView}
use Rattle.md_refusals.specs.declared.fault.CommandFault.{CommandFault}
use Rattle.md_refusals.specs.declared.fault.CommandFault.TheVariants.{BadLength, OutOfRange, Write}
use Rattle.md_commands.specs.ReadingInput.{HasGoodLength, RefusesLength}

-- Of a length that is known: it is a good one, and a resynced array has these sectors.
abbrev pub MayBeRead : ArrayView → ℕ → Option ℕ → Type 0
MayBeRead a sector None = Unit {0}
MayBeRead a sector (Some len) =
    HasGoodLength a.chunks.size len × (a.resynced ≡ true → IsInRange a sector (len / 512))

-- The input would be refused for this length.
abbrev pub RefusesTold : ArrayView → ℕ → Option ℕ → CommandFault → Type 0
RefusesTold a sector None fault = ⊥
RefusesTold a sector (Some len) (Write begin.OutOfRange) =
    HasGoodLength a.chunks.size len × (a.resynced ≡ true) × (IsInRange a sector (len / 512) → ⊥)
RefusesTold a sector (Some len) fault = RefusesLength a.chunks.size len fault

-- How many bytes an input has to have, where that is known: so many sectors as are asked for, or what it tells.
abbrev pub known_length : Option ℕ → Option ℕ → Option ℕ
known_length None told = told
known_length (Some count) told = Some (512 * count)

-- an input tells another length than so many bytes
abbrev pub TellsOther : ℕ → Option ℕ → Type 0
TellsOther len None = ⊥
TellsOther len (Some told) = told ≢ len

-- an input tells no other length than is asked for, where one is
abbrev pub TellsNoOther : Option ℕ → Option ℕ → Type 0
TellsNoOther None told = Unit {0}
TellsNoOther (Some count) told = TellsOther (512 * count) told → ⊥

-- The input of a write may be taken: so many sectors as are asked for, where they are, and else what it tells.
pub record MayBeTaken (a : ArrayView) (sector : ℕ) (count told : Option ℕ) : Type 0 where
  pub may : MayBeRead a sector (known_length count told)
  pub same : TellsNoOther count told

-- This is the length that is known, and the input may be read.
pub record IsKnownLength (a : ArrayView) (sector : ℕ) (count told len : Option ℕ) : Type 0 where
  pub is : len ≡ known_length count told
  pub may : MayBeTaken a sector count told

-- The input would be refused for the length that is known; or it tells another one than is asked for, and that would not be refused.
-- No array has as many bytes as 64 bits have no room for.
abbrev pub RefusesKnown : ArrayView → ℕ → Option ℕ → Option ℕ → CommandFault → Type 0
RefusesKnown a sector None told fault = RefusesTold a sector told fault
RefusesKnown a sector (Some count) told OutOfRange =
    (2 ^ 64 ≤ 512 * count) ⊎ RefusesTold a sector (Some (512 * count)) OutOfRange
RefusesKnown a sector (Some count) told BadLength =
    MayBeRead a sector (Some (512 * count)) × TellsOther (512 * count) told
RefusesKnown a sector (Some count) told fault = RefusesTold a sector (Some (512 * count)) fault
