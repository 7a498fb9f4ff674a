-- Lists that are longer in memory than in the logs are stored by a rebuild before it copies anything, and after a resync where one is
-- needed (this project's own).
use Rattle.std.specs.Prelude.{◌≡◌, ◌⊎◌, ◌+◌, ◌<◌, ◌≤◌, ℕ, Bool, true, false, length}
use Rattle.md_copy.specs.declared.beginning.fault.RebuildFault.{RebuildFault}
use Rattle.md_copy.specs.declared.beginning.fault.RebuildFault.TheVariants as rebuilding
use Rattle.md_kept_members.specs.View.{MemberView}
use Rattle.md_metadata.specs.StoringLists.{ListFails, StoresList}
use Rattle.md_metadata.specs.Storing.{IsRecording, StoresAll, StoringFails}
use Rattle.md_metadata.specs.declared.fault.PartFault.{PartFault}
use Rattle.md_metadata.specs.declared.fault.PartFault.TheVariants as part
use Rattle.md_resync.specs.declared.fault.ResyncFault.{ResyncFault}
use Rattle.md_state.specs.Members.{IsInSync, IsMember, is_degraded}
use Rattle.md_state.specs.Steps.WriteMember.{IsNotDue}
use Rattle.md_state.specs.View.{ArrayView, MirrorView}
use Rattle.md_refusals.specs.declared.fault.CommandFault.{CommandFault}
use Rattle.md_refusals.specs.declared.fault.CommandFault.TheVariants.{Rebuild, Resync}
use Rattle.md_commands.specs.Resyncing.{RefusesNeededResync, ResyncsIfNeeded}
use Rattle.md_commands.specs.SettingAside.{RefusesSalvageResync, ResyncsToSalvage}
use Rattle.md_words.specs.Asks.{Ask, loss_of, rebuilds}
use Rattle.md_cli.specs.Lacking.{HasRoomToSpare, IsLacking, Maps, is_sectors}
use Rattle.md_cli.specs.Opened.{OpenedView}

-- The list of member k is stored: it is in sync, its image lacks some sector of the array, and its log has room for the list, and some to
-- spare. The mirror runs, and no superblock of a member in sync before it is due, as is so once the array is stopped.
pub record MayStore (lacking : Maps) (a : ArrayView) (k : ℕ) : Type 0 where
  pub lacks : IsLacking lacking a k
  pub running : a.halted ≡ false
  pub room : (m : MemberView) → IsMember a k m → HasRoomToSpare m.superblock m.bad
  pub earlier : (j : ℕ) (m : MemberView) → j < k → IsInSync a j m → IsNotDue m

-- The list of member k is stored, where it may be.
abbrev pub StoresOne : Maps → ℕ → MirrorView → MirrorView → Type 0
StoresOne lacking k old new =
    (MayStore lacking old.array k × StoresList k old new) ⊎ ((MayStore lacking old.array k → ⊥) × (new ≡ old))

-- a write failed by which it was to be stored
abbrev pub FailsListStore : Maps → ℕ → MirrorView → MirrorView → CommandFault → Type 0
FailsListStore lacking k old new fault =
    MayStore lacking old.array k × (fault ≡ Rebuild (rebuilding.MetadataFault k))
    × ((why : PartFault) × ListFails k old new why)

-- From member k on the lists are stored, one after another.
pub data StoresFrom (lacking : Maps) : ℕ → MirrorView → MirrorView → Type 0 where
  past : {k : ℕ} {v : MirrorView} → length v.array.members ≤ k → StoresFrom lacking k v v
  one : {k : ℕ} {old mid new : MirrorView} → k < length old.array.members → StoresOne lacking k old mid
      → StoresFrom lacking (k + 1) mid new → StoresFrom lacking k old new

-- Some are stored so, and then a write fails.
pub data FailsFrom (lacking : Maps) (fault : CommandFault) : ℕ → MirrorView → MirrorView → Type 0 where
  here : {k : ℕ} {old new : MirrorView} → FailsListStore lacking k old new fault
      → FailsFrom lacking fault k old new
  later : {k : ℕ} {old mid new : MirrorView} → k < length old.array.members → StoresOne lacking k old mid
      → FailsFrom lacking fault (k + 1) mid new → FailsFrom lacking fault k old new

-- a rebuild stores lists
abbrev pub stores_lists : Ask → Bool
stores_lists (rebuilds k loss form) = true
stores_lists _ = false

-- ---- before that
-- The array is made ready for it: some role has no member in sync, so that a member may be rebuilt, and the image of some member in sync
-- lacks a sector.
pub record IsToReady (ask : Ask) (lacking : Maps) (a : ArrayView) : Type 0 where
  pub stores : stores_lists ask ≡ true
  pub degraded : is_degraded a ≡ true
  pub some : (k : ℕ) × IsLacking lacking a k

-- superblocks of members in sync that are due are stored, while the mirror runs
abbrev pub StoresDue : MirrorView → MirrorView → Type 0
StoresDue old new = (old.array.halted ≡ true) × (new ≡ old) ⊎ StoresAll IsRecording IsNotDue old new

abbrev pub fault_of_part : PartFault → RebuildFault
fault_of_part (part.MemberFailed k) = rebuilding.MetadataFault k
fault_of_part part.Halted = rebuilding.Halted

pub record FailsToStoreDue (old new : MirrorView) (fault : CommandFault) : Type 0 where
  pub why : PartFault
  pub is : fault ≡ Rebuild (fault_of_part why)
  pub fails : StoringFails IsRecording old new why

-- The array is resynced where it has to be. A salvage (true) sets aside what members do not give, where a read ended that, and does it anew.
abbrev pub ResyncsFor : Bool → MirrorView → MirrorView → Type 0
ResyncsFor true old new = ResyncsToSalvage old new
ResyncsFor false old new = ResyncsIfNeeded old new

abbrev pub RefusesResyncFor : Bool → MirrorView → MirrorView → ResyncFault → Type 0
RefusesResyncFor true old new why = RefusesSalvageResync old new why
RefusesResyncFor false old new why = RefusesNeededResync old new why

-- The array is resynced where it has to be, and then superblocks that are due are stored.
pub record IsReadiedToStore (ask : Ask) (old new : MirrorView) : Type 0 where
  pub mid : MirrorView
  pub resynced : ResyncsFor (is_sectors (loss_of ask)) old mid
  pub stored : StoresDue mid new

-- This is done where the array is to be made ready for it.
abbrev pub ReadiesToStore : Ask → Maps → MirrorView → MirrorView → Type 0
ReadiesToStore ask lacking old new =
    IsToReady ask lacking old.array × IsReadiedToStore ask old new
    ⊎ (IsToReady ask lacking old.array → ⊥) × (new ≡ old)

-- the array is not resynced
pub record FailsToResync (ask : Ask) (old new : MirrorView) (fault : CommandFault) : Type 0 where
  pub why : ResyncFault
  pub is : fault ≡ Resync why
  pub refused : RefusesResyncFor (is_sectors (loss_of ask)) old new why

-- the array is resynced, and a superblock is not stored
pub record FailsAfterResync (ask : Ask) (old new : MirrorView) (fault : CommandFault) : Type 0 where
  pub mid : MirrorView
  pub resynced : ResyncsFor (is_sectors (loss_of ask)) old mid
  pub fails : FailsToStoreDue mid new fault

abbrev pub FailsToReady : Ask → MirrorView → MirrorView → CommandFault → Type 0
FailsToReady ask old new fault = FailsToResync ask old new fault ⊎ FailsAfterResync ask old new fault

-- Lists are stored then, before the command is done: the array is resynced, and no superblock of a member in sync is due.
pub record StoresEarly (ask : Ask) (a : ArrayView) : Type 0 where
  pub stores : stores_lists ask ≡ true
  pub resynced : a.resynced ≡ true
  pub recorded : (j : ℕ) (m : MemberView) → IsInSync a j m → IsNotDue m

-- The lists of members whose images lack something are stored, and nothing beside the array changes.
pub record StoresEachList (lacking : Maps) (before after : OpenedView) : Type 0 where
  pub beside : after.beside ≡ before.beside
  pub as_many : length after.mirror.disks ≡ length before.mirror.disks
  pub stores : StoresFrom lacking 0 before.mirror after.mirror

-- A write fails by which one is to be stored.
pub record FailsToStoreAll (lacking : Maps) (before after : OpenedView) (fault : CommandFault) : Type 0 where
  pub beside : after.beside ≡ before.beside
  pub as_many : length after.mirror.disks ≡ length before.mirror.disks
  pub fails : FailsFrom lacking fault 0 before.mirror after.mirror
