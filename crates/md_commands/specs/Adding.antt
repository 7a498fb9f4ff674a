-- The command that adds a device.
use Rattle.std.specs.Prelude.{◌≡◌, ℕ, ◌+◌, List, length, Option, Some, None}
use Rattle.md_streams.specs.declared.sink.Sink.{Ghosts}
use Rattle.md_array.specs.Steps.Add.{Adds, RefusesAdd}
use Rattle.md_faults.specs.declared.add_fault.AddFault.{AddFault}
use Rattle.md_state.specs.View.{Disk, MirrorView}
use Rattle.md_refusals.specs.declared.fault.CommandFault.{CommandFault}
use Rattle.md_refusals.specs.declared.fault.CommandFault.TheVariants.{Add}
use Rattle.md_commands.specs.Stopping.{FailsToStopArray}

-- the device joins as the last member
abbrev pub AddsDevice : Disk → MirrorView → MirrorView → Type 0
AddsDevice device old new = (k : ℕ) × Adds k device old new

-- The device does not come in, and is handed back.
pub record HandsBackUnadded (device : Disk) (given : Option Disk) (old new : MirrorView)
    (fault : AddFault) : Type 0 where
  pub back : Disk
  pub is : given ≡ Some back
  pub refused : RefusesAdd device back old new fault

-- Where a device joins there is one more, and it does not come back. Where it does there are as many.
abbrev pub KeepsDevice : List Disk → List Disk → Option Disk → Type 0
KeepsDevice old new None = length new ≡ length old + 1
KeepsDevice old new (Some d) = length new ≡ length old

module _ {S : Type 0} (s : Ghosts S) where
  -- it does not join, and nothing is put out; or it does, and then the array is not stopped, or not shown
  abbrev pub RefusesJoining : Disk → Option Disk → MirrorView → MirrorView → S → S → CommandFault → Type 0
  RefusesJoining device given old new before after (Add fault) =
      HandsBackUnadded device given old new fault × (after ≡ before)
  RefusesJoining device given old new before after fault =
      FailsToStopArray s (AddsDevice device old) new before after fault
