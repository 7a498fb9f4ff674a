-- What a crash leaves within `add` and `re_add`, before they are done: of the mirror's devices it is a crash at that moment, and of the device that
-- was coming it is said what an opening reads.
use Rattle.std.specs.Prelude.{◌≡◌, ◌≢◌, ◌⊎◌, ℕ, true, List, [], ◌∷◌, ◌++◌, slice_get, Some, None}
use Rattle.md_model.specs.Events.{Event}
use Rattle.md_format.specs.Fields.{number_at}
use Rattle.md_super.specs.Encoding.{super_bytes}
use Rattle.md_faults.specs.declared.add_fault.AddFault.{AddFault}
use Rattle.md_faults.specs.declared.add_fault.AddFault.TheVariants.{WriteFault}
use Rattle.md_faults.specs.declared.re_add_fault.ReAddFault.{ReAddFault}
use Rattle.md_faults.specs.declared.re_add_fault.ReAddFault.TheVariants as re_add_fault
use Rattle.md_kept_members.specs.TakingBack.{own_role}
use Rattle.md_kept_members.specs.Membership.Joining.{joined_shared}
use Rattle.md_kept_members.specs.OnDevices.Superblocks.{write_of}
use Rattle.md_state.specs.View.{Disk, MirrorView}
use Rattle.md_array.specs.Steps.Add.{Adds, FailsToAdd, RefusesAdd, add_event}
use Rattle.md_array.specs.Open.Opened.{IsOpenedFrom}
use Rattle.md_array.specs.Steps.ReAdd.{FailsToReAdd, ReAdds, RefusesReAdd, re_add_event}
use Rattle.md_array.specs.Worlds.{AreHonest, block_on, super_in}
use Rattle.md_laws.specs.Left.{IsLeftByCrash, contents_of}
use Rattle.md_laws.specs.Runs.{MirrorRun, Moment}
use Rattle.md_laws.specs.CallCrashes.{AtMoments}
use Rattle.md_laws.specs.ReadAfterCrashes.{EndsInFirstSector, ReadsAs}
use Rattle.md_laws.specs.CrashesWithin.{IsLeftFailing, MayAllBeLeft}
use Rattle.md_members.specs.DeviceWrites.Writes.{IsAnyIn}

-- The device joined by this event, and a crash after it leaves this.
pub record IsCrashJoined (e : Event) (t : Moment) (left : List Disk) : Type 0 where
  pub at : Moment
  pub run : MirrorRun t (e ∷ []) at
  pub is_left : IsLeftByCrash at left

-- The device did not join. The mirror's devices were left as they were, as a crash at this moment leaves them,
-- and this stands on the one after them.
pub record IsLeftBeside (t : Moment) (left : List Disk) (Stands : List ℕ → Type 0) : Type 0 where
  pub beside : List ℕ
  pub are : contents_of left ≡ contents_of t.mirror.disks ++ beside ∷ []
  pub is_left : IsLeftByCrash t t.mirror.disks
  pub stands : Stands beside

-- The device's superblock reads as when the device was given, or none can be read.
abbrev pub IsGivenOrNone : Disk → List ℕ → Type 0
IsGivenOrNone device c = ReadsAs (block_on c) (block_on device.content) ⊎ (super_in (block_on c) ≡ None)

-- no superblock stands there, but another magic number (md_p.h), as on a disk that never was of an array
abbrev pub HasOtherMagic : List ℕ → Type 0
HasOtherMagic block = number_at 4 0 block ≢ 0xa92b4efc

-- A crash within an `add` that answers `Ok`, where the superblocks end within their first sectors: the one
-- that stands on the device, if there is one, and the one that is written.
abbrev pub CrashesInAdd : Type 0
CrashesInAdd =
    AtMoments (λ t.
    ((k : ℕ) (device : Disk) (new : MirrorView) → device.honest ≡ true → (r : Adds k device t.mirror new)
    → EndsInFirstSector (block_on device.content) ⊎ HasOtherMagic (block_on device.content) → EndsInFirstSector (super_bytes r.comes.laid.superblock)
    → (left : List Disk) → MayAllBeLeft (t.mirror.disks ++ device ∷ []) new.disks (contents_of left)
    → IsCrashJoined (add_event k device t.mirror new r) t left ⊎ IsLeftBeside t left (IsGivenOrNone device)))

-- A crash within a `re_add` that answers `Ok`, where both superblocks of the device end within their first
-- sectors: the superblock reads as when the device was given, or the device has joined.
abbrev pub CrashesInReAdd : Type 0
CrashesInReAdd =
    AtMoments (λ t.
    ((k : ℕ) (device : Disk) (new : MirrorView) → device.honest ≡ true → (r : ReAdds k device t.mirror new)
    → EndsInFirstSector (block_on device.content) → EndsInFirstSector (block_on r.recorded.now.content)
    → (left : List Disk) → MayAllBeLeft (t.mirror.disks ++ device ∷ []) new.disks (contents_of left)
    → IsCrashJoined (re_add_event k device t.mirror new r) t left ⊎ IsLeftBeside t left (λ c. ReadsAs (block_on c) (block_on device.content))))

-- ---- where it is not done
-- Where a write of `add` fails, the writes before it are done on that device, or cut short, or any bytes stand in its range.
abbrev pub CrashesInFailedAdd : Type 0
CrashesInFailedAdd =
    (t : Moment) (device given : Disk) (new : MirrorView) → device.honest ≡ true → (f : FailsToAdd device given t.mirror new)
    → (left : List Disk) → MayAllBeLeft (t.mirror.disks ++ device ∷ []) (new.disks ++ given ∷ []) (contents_of left)
    → IsLeftBeside t left (IsLeftFailing f.fails.writes.done f.fails.writes.tried device.content)

-- Where the one of `re_add` fails, any bytes stand in place of its superblock.
abbrev pub CrashesInFailedReAdd : Type 0
CrashesInFailedReAdd =
    (t : Moment) (device given : Disk) (new : MirrorView) → device.honest ≡ true → (f : FailsToReAdd device given t.mirror new)
    → (left : List Disk) → MayAllBeLeft (t.mirror.disks ++ device ∷ []) (new.disks ++ given ∷ []) (contents_of left)
    → IsLeftBeside t left (IsAnyIn (write_of (joined_shared t.mirror.array.shared t.mirror.array.members f.fails.member.superblock.dev_number (own_role f.info.superblock)) f.fails.member) device.content)

-- Where they are refused for another reason, that device too is as it was.
abbrev pub CrashesInRefusedAdd : Type 0
CrashesInRefusedAdd =
    (t : Moment) (device given : Disk) (new : MirrorView) (fault : AddFault) → fault ≢ WriteFault → RefusesAdd device given t.mirror new fault
    → (left : List Disk) → MayAllBeLeft (t.mirror.disks ++ device ∷ []) (new.disks ++ given ∷ []) (contents_of left) → IsLeftBeside t left (λ c. c ≡ device.content)

abbrev pub CrashesInRefusedReAdd : Type 0
CrashesInRefusedReAdd =
    (t : Moment) (device given : Disk) (new : MirrorView) (fault : ReAddFault) → fault ≢ re_add_fault.WriteFault → device.honest ≡ true → RefusesReAdd device given t.mirror new fault
    → (left : List Disk) → MayAllBeLeft (t.mirror.disks ++ device ∷ []) (new.disks ++ given ∷ []) (contents_of left) → IsLeftBeside t left (λ c. c ≡ device.content)

-- ---- the next opening
-- No mirror is opened from devices of which one has no superblock: so the next opening is without it.
abbrev pub NoneIsOpened : Type 0
NoneIsOpened =
    (before : List Disk) (m : MirrorView) → AreHonest before → IsOpenedFrom before m
    → (j : ℕ) (d : Disk) → slice_get before j ≡ Some d → super_in (block_on d.content) ≡ None → ⊥
