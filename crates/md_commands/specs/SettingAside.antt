-- The resync before a salvage. A salvage is after each sector that some member gives, also where members in sync may differ: there a sector
-- that the first of them does not give is taken from the next (sync_request_write and fix_sync_read_error of raid1.c in the kernel's md
-- driver; that what is not given is found out and listed before is this project's own).
use Rattle.std.specs.Prelude.{◌≡◌, ◌⊎◌, ℕ, Bool, true, false, List, [], ◌∷◌}
use Rattle.md_badblocks.specs.Runs.{IsBad}
use Rattle.md_badblocks.specs.declared.run.Run.{Run}
use Rattle.md_kept_members.specs.Enrolling.{HasRoomFor}
use Rattle.md_kept_members.specs.SectorLists.{in_runs}
use Rattle.md_kept_members.specs.View.{MemberView}
use Rattle.md_state.specs.Members.{IsMember}
use Rattle.md_state.specs.Rests.{Rests}
use Rattle.md_state.specs.Steps.WriteMember.{IsNotDue}
use Rattle.md_state.specs.View.{ArrayView, MirrorView}
use Rattle.md_array.specs.Steps.NoteBad.{RegardsSectors}
use Rattle.md_metadata.specs.Storing.{IsRecording, StoresAll, StoringFails}
use Rattle.md_metadata.specs.StoringLists.{ListFails, StoresList}
use Rattle.md_metadata.specs.declared.fault.PartFault.{PartFault}
use Rattle.md_metadata.specs.declared.fault.PartFault.TheVariants as part
use Rattle.md_read.specs.Reading.{HasReadFailed}
use Rattle.md_resync.specs.Copying.{IsInMarkedChunk}
use Rattle.md_resync.specs.declared.fault.ResyncFault.{ResyncFault}
use Rattle.md_resync.specs.declared.fault.ResyncFault.TheVariants.{Halted, MemberFailed, NoMemory, ReadFault}
use Rattle.md_commands.specs.Resyncing.{RefusesNeededResync, ResyncsIfNeeded}

-- ---- what a member does not give
-- The sector is of a marked chunk, and member k did not give it where it was asked for it alone: a read of it failed.
abbrev pub IsUngiven : ℕ → ℕ → MirrorView → MirrorView → Type 0
IsUngiven k s old new = IsInMarkedChunk old.array s × HasReadFailed k s 1 old new

-- Sectors that member k did not give came to these.
abbrev pub FindsUngiven : ℕ → List Run → List Run → MirrorView → MirrorView → Type 0
FindsUngiven k before after old new = (s : ℕ) → IsBad after s → IsBad before s ⊎ IsUngiven k s old new

-- Member k regards some such sectors as bad. Nothing is written.
pub record RegardsUngiven (k : ℕ) (old new : MirrorView) : Type 0 where
  pub asked : MirrorView
  pub rests : Rests old asked
  pub sectors : List Run
  pub not_given : (s : ℕ) → IsBad sectors s → IsUngiven k s old asked
  pub regards : RegardsSectors k (in_runs sectors) asked new

-- ---- its list is stored
abbrev pub HasRoomForList : ℕ → ArrayView → Type 0
HasRoomForList k a = (m : MemberView) → IsMember a k m → HasRoomFor m.superblock m.bad

-- Superblocks of members in sync that are due are stored, and then the list of member k.
pub record StoresListThen (k : ℕ) (old new : MirrorView) : Type 0 where
  pub recorded : MirrorView
  pub records : StoresAll IsRecording IsNotDue old recorded
  pub stores : StoresList k recorded new

-- The list of member k is stored where its log has room for it.
abbrev pub StoresIfFitting : ℕ → MirrorView → MirrorView → Type 0
StoresIfFitting k old new =
    (HasRoomForList k old.array × StoresListThen k old new) ⊎ ((HasRoomForList k old.array → ⊥) × (new ≡ old))

abbrev pub storing_fault : PartFault → ResyncFault
storing_fault part.Halted = Halted
storing_fault (part.MemberFailed k) = MemberFailed k

-- a write failed by which something was to be stored
abbrev pub FailsAtPart : ℕ → MirrorView → MirrorView → PartFault → Type 0
FailsAtPart k old new why =
    StoringFails IsRecording old new why
    ⊎ ((recorded : MirrorView) × StoresAll IsRecording IsNotDue old recorded × ListFails k recorded new why)

abbrev pub FailsToStoreFitting : ℕ → MirrorView → MirrorView → ResyncFault → Type 0
FailsToStoreFitting k old new fault =
    (why : PartFault) × (fault ≡ storing_fault why) × FailsAtPart k old new why

-- ---- member after member
-- Member k gave all that it was asked for, or what it did not give is listed on it.
pub record ListsUngiven (k : ℕ) (old new : MirrorView) : Type 0 where
  pub regarded : MirrorView
  pub regards : RegardsUngiven k old regarded
  pub stores : StoresIfFitting k regarded new

abbrev pub SetsAsideOn : ℕ → MirrorView → MirrorView → Type 0
SetsAsideOn k old new = Rests old new ⊎ ListsUngiven k old new

abbrev pub FailsAsideOn : ℕ → MirrorView → MirrorView → ResyncFault → Type 0
FailsAsideOn k old new fault =
    ((fault ≡ NoMemory) × Rests old new)
    ⊎ ((regarded : MirrorView) × RegardsUngiven k old regarded × FailsToStoreFitting k regarded new fault)

-- Of these members, one after another.
abbrev pub SetsAside : List ℕ → MirrorView → MirrorView → Type 0
SetsAside [] old new = new ≡ old
SetsAside (k ∷ ks) old new = (mid : MirrorView) × SetsAsideOn k old mid × SetsAside ks mid new

pub record FailsAside (old new : MirrorView) (fault : ResyncFault) : Type 0 where
  pub members : List ℕ
  pub begun : MirrorView
  pub sets : SetsAside members old begun
  pub member : ℕ
  pub fails : FailsAsideOn member begun new fault

-- ---- the resync
-- a member that was to give a sector of this chunk could not be read
abbrev pub is_read_fault : ResyncFault → Bool
is_read_fault (ReadFault k chunk) = true
is_read_fault fault = false

-- A resync that was needed ended at such a read.
pub record EndsUnread (old new : MirrorView) : Type 0 where
  pub fault : ResyncFault
  pub is : is_read_fault fault ≡ true
  pub refused : RefusesNeededResync old new fault

-- After that, what members do not give was set aside.
pub record SetsAsideAfter (old new : MirrorView) : Type 0 where
  pub ended : MirrorView
  pub unread : EndsUnread old ended
  pub members : List ℕ
  pub sets : SetsAside members ended new

-- The array is resynced where it has to be: at once, or anew after that.
abbrev pub ResyncsToSalvage : MirrorView → MirrorView → Type 0
ResyncsToSalvage old new =
    ResyncsIfNeeded old new ⊎ ((aside : MirrorView) × SetsAsideAfter old aside × ResyncsIfNeeded aside new)

-- The first resync is refused, and not for a read; or something could not be set aside; or the second one is refused.
abbrev pub RefusesSalvageResync : MirrorView → MirrorView → ResyncFault → Type 0
RefusesSalvageResync old new fault =
    ((is_read_fault fault ≡ false) × RefusesNeededResync old new fault)
    ⊎ (((ended : MirrorView) × EndsUnread old ended × FailsAside ended new fault)
    ⊎ ((aside : MirrorView) × SetsAsideAfter old aside × RefusesNeededResync aside new fault))
