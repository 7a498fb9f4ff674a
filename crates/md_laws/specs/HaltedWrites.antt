-- What a crash leaves within a write that fails and halts the mirror. Such a write may leave any bytes in its range, and of these nothing is said.
-- But where the crash left it done, or not done, or of a copy each sector as it was or as written, a write that is done leaves that too: so it
-- is a crash between two events, of another list.
use Rattle.std.specs.Prelude.{◌≡◌, ◌⊎◌, ℕ, ◌+◌, ◌<◌, List, map, slice_get, Some}
use Rattle.md_badblocks.specs.Runs.{IsCanonical}
use Rattle.md_device.specs.Device.{written}
use Rattle.md_device.specs.Crashes.{IsMixed}
use Rattle.md_members.specs.Areas.{bitmap_sectors}
use Rattle.md_model.specs.Events.{Event}
use Rattle.md_members.specs.DeviceWrites.Writes.{Write}
use Rattle.md_state.specs.Steps.CopyData.{HaltsCopying}
use Rattle.md_state.specs.Steps.StoreMarks.{HaltsStoringMarks, StoresMarkSector}
use Rattle.md_state.specs.View.{Disk, MirrorView}
use Rattle.md_array.specs.Consistency.{IsConsistent}
use Rattle.md_array.specs.Events.{Happens, listed_on}
use Rattle.md_array.specs.Steps.StoreLog.{HaltsStoringLog, StoresLog}
use Rattle.md_array.specs.Worlds.{AreHonest}
use Rattle.md_laws.specs.CopyCrashes.{IsCopiedInPart}
use Rattle.md_laws.specs.CrashesWithin.{MayAllBeLeft}

-- the write was left done on device k, or not done
abbrev pub IsDoneOrNot : ℕ → Write → List Disk → List (List ℕ) → Type 0
IsDoneOrNot k w before left =
    (d : Disk) (c : List ℕ) → slice_get before k ≡ Some d → slice_get left k ≡ Some c → (c ≡ d.content) ⊎ (c ≡ written d.content w.sector w.bytes)

-- What was left stands on the devices before the step, or after the same step where it is done, which is an event.
abbrev pub StandsAfter : (MirrorView → Type 0) → MirrorView → List (List ℕ) → Type 0
StandsAfter IsDone old left =
    (left ≡ map (λ d. d.content) old.disks) ⊎ ((other : MirrorView) × IsDone other × (map (λ d. d.content) other.disks ≡ left))

-- A sector of a bitmap that is left done or not done stands as before or after `store_marks`.
abbrev pub CrashesAtHaltedMarks : Type 0
CrashesAtHaltedMarks =
    (k block : ℕ) (old new : MirrorView) (left : List (List ℕ)) → IsConsistent old → AreHonest old.disks → block < bitmap_sectors old.array.marks.chunks
    → (h : HaltsStoringMarks k block old new) → MayAllBeLeft old.disks new.disks left → IsDoneOrNot k h.write old.disks left
    → StandsAfter (λ other. StoresMarkSector k block old other × Happens old (Event.StoreMarks k block) other) old left

-- A log that is left done or not done stands as before or after `store_log`.
abbrev pub CrashesAtHaltedLog : Type 0
CrashesAtHaltedLog =
    (k : ℕ) (old new : MirrorView) (left : List (List ℕ)) → IsConsistent old → AreHonest old.disks
    → (h : HaltsStoringLog k old new) → IsCanonical h.member.bad → MayAllBeLeft old.disks new.disks left → IsDoneOrNot k h.write old.disks left
    → StandsAfter (λ other. StoresLog k old other × Happens old (Event.StoreLog k (listed_on other k)) other) old left

-- each sector of the write was left as it was or as written on device k
abbrev pub IsLeftInSectors : ℕ → ℕ → List ℕ → List Disk → List (List ℕ) → Type 0
IsLeftInSectors k sector bytes before left = (d : Disk) (c : List ℕ) → slice_get before k ≡ Some d → slice_get left k ≡ Some c → IsMixed sector bytes d.content c

-- Sectors of a copy that are left as they were or as written stand as after a copy of some of them.
abbrev pub CrashesAtHaltedCopies : Type 0
CrashesAtHaltedCopies =
    (k sector n : ℕ) (old new : MirrorView) (left : List (List ℕ)) → IsConsistent old → AreHonest old.disks → (h : HaltsCopying k sector n old new)
    → MayAllBeLeft old.disks new.disks left → IsLeftInSectors k (h.copy.may.target.superblock.data_offset + sector) h.bytes old.disks left → IsCopiedInPart k old left
