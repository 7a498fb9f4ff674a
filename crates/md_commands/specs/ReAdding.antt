-- The command that takes a device back.
use Rattle.std.specs.Prelude.{◌≡◌, ℕ, Option, Some}
use Rattle.md_copy.specs.declared.beginning.fault.RebuildFault.{RebuildFault}
use Rattle.md_copy.specs.declared.rebuilt.Rebuilt.{Rebuilt}
use Rattle.md_copy.specs.Rebuilding.{Rebuilds, RefusesRebuild}
use Rattle.md_streams.specs.declared.sink.Sink.{Ghosts}
use Rattle.md_faults.specs.declared.re_add_fault.ReAddFault.{ReAddFault}
use Rattle.md_resync.specs.declared.fault.ResyncFault.{ResyncFault}
use Rattle.md_state.specs.View.{Disk, MirrorView}
use Rattle.md_refusals.specs.declared.fault.CommandFault.{CommandFault}
use Rattle.md_refusals.specs.declared.fault.CommandFault.TheVariants.{ReAdd, Rebuild, Resync}
use Rattle.md_metadata.specs.ComingBack.{ComesBack, HandsBackAsWas, RefusesComingBack}
use Rattle.md_metadata.specs.declared.coming_back.extent_of_rebuild.RebuildExtent.{RebuildExtent}
use Rattle.md_commands.specs.Resyncing.{RefusesNeededResync, ResyncsIfNeeded}
use Rattle.md_commands.specs.Stopping.{FailsToStopArray}

-- member k is rebuilt; what is told of it is not shown
abbrev pub RebuildsMember : ℕ → MirrorView → MirrorView → Type 0
RebuildsMember k old new = (told : Rebuilt) × Rebuilds k told old new

-- the array is resynced where it has to be, and then the device comes back as member k
pub record ComesBackReadied (extent : RebuildExtent) (k : ℕ) (device : Disk) (old new : MirrorView)
    : Type 0 where
  pub ready : MirrorView
  pub readied : ResyncsIfNeeded old ready
  pub comes : ComesBack extent k device ready new

-- A device comes back, and is rebuilt in what it lacks.
pub record ReAddsDevice (extent : RebuildExtent) (device : Disk) (old new : MirrorView) : Type 0 where
  pub k : ℕ
  pub joined : MirrorView
  pub comes : ComesBackReadied extent k device old joined
  pub rebuilds : RebuildsMember k joined new

-- the array can't be resynced, and the device is handed back as it was
pub record HandsBackUntried (device : Disk) (given : Option Disk) (old new : MirrorView)
    (fault : ResyncFault) : Type 0 where
  pub is : given ≡ Some device
  pub refused : RefusesNeededResync old new fault

-- The device does not come back, and is handed back.
pub record HandsBackUnjoined (extent : RebuildExtent) (device : Disk) (given : Option Disk)
    (old new : MirrorView) (fault : ReAddFault) : Type 0 where
  pub ready : MirrorView
  pub readied : ResyncsIfNeeded old ready
  pub back : Disk
  pub is : given ≡ Some back
  pub refused : RefusesComingBack extent device back ready new fault
  pub as_was : HandsBackAsWas device back ready new fault

-- The device comes back, and is not rebuilt.
pub record FailsToRebuildJoined (extent : RebuildExtent) (device : Disk) (old new : MirrorView)
    (fault : RebuildFault) : Type 0 where
  pub k : ℕ
  pub joined : MirrorView
  pub comes : ComesBackReadied extent k device old joined
  pub refused : RefusesRebuild k joined new fault

module _ {S : Type 0} (s : Ghosts S) where
  -- member k is not rebuilt; or it is, and then the array is not stopped, or not shown
  abbrev pub RefusesRebuilding : ℕ → MirrorView → MirrorView → S → S → CommandFault → Type 0
  RefusesRebuilding k old new before after (Rebuild fault) = RefusesRebuild k old new fault × (after ≡ before)
  RefusesRebuilding k old new before after fault =
      FailsToStopArray s (RebuildsMember k old) new before after fault

  -- the device does not come back, or is not rebuilt, and nothing is put out; or it is, and then the array is not stopped, or not
  -- shown
  abbrev pub RefusesToReAdd : RebuildExtent → Disk → Option Disk → MirrorView → MirrorView → S → S
      → CommandFault → Type 0
  RefusesToReAdd extent device given old new before after (Resync fault) =
      HandsBackUntried device given old new fault × (after ≡ before)
  RefusesToReAdd extent device given old new before after (ReAdd fault) =
      HandsBackUnjoined extent device given old new fault × (after ≡ before)
  RefusesToReAdd extent device given old new before after (Rebuild fault) =
      FailsToRebuildJoined extent device old new fault × (after ≡ before)
  RefusesToReAdd extent device given old new before after fault =
      FailsToStopArray s (ReAddsDevice extent device old) new before after fault
