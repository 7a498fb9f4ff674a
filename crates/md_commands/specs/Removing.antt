-- The command that removes a member.
use Rattle.std.specs.Prelude.{◌≡◌, ℕ, ◌+◌, List, length, slice_get, Option, Some, None}
use Rattle.md_streams.specs.declared.sink.Sink.{Ghosts}
use Rattle.md_state.specs.Steps.Remove.{RefusesRemove, Removes}
use Rattle.md_state.specs.Trying.{Refuses}
use Rattle.md_state.specs.View.{Disk, MirrorView}
use Rattle.md_refusals.specs.declared.fault.CommandFault.{CommandFault}
use Rattle.md_refusals.specs.declared.fault.CommandFault.TheVariants.{BadMember, Remove}
use Rattle.md_commands.specs.Failing.{HasMember, LacksMember}
use Rattle.md_commands.specs.Stopping.{FailsToStopArray}

-- member k leaves with its device
abbrev pub RemovesMember : ℕ → MirrorView → MirrorView → Type 0
RemovesMember k old new = (d : Disk) × Removes k d old new

-- why it does not
abbrev pub RefusesRemoving : ℕ → MirrorView → MirrorView → CommandFault → Type 0
RefusesRemoving k old new BadMember = Refuses old new (LacksMember old.array k)
RefusesRemoving k old new (Remove fault) = HasMember old.array k × RefusesRemove k old new fault
RefusesRemoving k old new fault = ⊥

-- The device of a member that left is handed back, as it was, and there is one less. Where none left there are as many.
abbrev pub HandsBack : ℕ → List Disk → List Disk → Option Disk → Type 0
HandsBack k old new None = length new ≡ length old
HandsBack k old new (Some d) = (slice_get old k ≡ Some d) × (length new + 1 ≡ length old)

module _ {S : Type 0} (s : Ghosts S) where
  -- it does not leave, and nothing is put out; or it does, and then the array is not stopped, or not shown
  abbrev pub RefusesToRemove : ℕ → MirrorView → MirrorView → S → S → CommandFault → Type 0
  RefusesToRemove k old new before after BadMember = RefusesRemoving k old new BadMember × (after ≡ before)
  RefusesToRemove k old new before after (Remove fault) =
      RefusesRemoving k old new (Remove fault) × (after ≡ before)
  RefusesToRemove k old new before after fault =
      FailsToStopArray s (RemovesMember k old) new before after fault
