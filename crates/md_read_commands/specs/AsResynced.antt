-- What is read of an array that is not resynced is what a read gives after a resync.
use Rattle.std.specs.Prelude.{◌≡◌, ℕ, ◌+◌, ◌/◌, ◌<◌, List, length, slice_get, Some}
use Rattle.md_device.specs.Device.{held}
use Rattle.md_kept_members.specs.View.{MemberView}
use Rattle.md_state.specs.Steps.CopyData.{IsSource, Lists}
use Rattle.md_state.specs.Members.{IsMember}
use Rattle.md_state.specs.View.{Disk, MirrorView}
use Rattle.md_array.specs.Consistency.{IsConsistent}
use Rattle.md_array.specs.Steps.NoteResynced.{AllAgreeAt, IsHonestMember, sector_of}
use Rattle.md_array.specs.Worlds.{AreHonest}
use Rattle.md_read.specs.Reading.{Reads}
use Rattle.md_read.specs.Unresynced.{IsSectorMarked, IsUnmarkedAt, ReadsUnresynced}
use Rattle.md_resync.specs.Resyncing.{Resyncs}

-- The array is kept as it was, and each device holds what it held: nothing was written between the two. So it is of devices, and of overlays
-- over them.
pub record HoldsAsMuch (old new : MirrorView) : Type 0 where
  pub array : new.array ≡ old.array
  pub as_many : length new.disks ≡ length old.disks
  pub content : (k : ℕ) (d e : Disk) → slice_get old.disks k ≡ Some d → slice_get new.disks k ≡ Some e
      → e.content ≡ d.content

-- What a resync leaves: in each sector of a marked chunk every member in sync that does not list it holds what the source of the sector
-- held, and what any member holds of another chunk stays.
pub record LeavesSources (old new : MirrorView) : Type 0 where
  pub marked : (s from k : ℕ) (m n : MemberView) (d e : Disk) → s < old.array.chunks.size
      → IsSectorMarked old.array s → IsSource from s old.array
      → IsMember old.array from m → slice_get old.disks from ≡ Some d → IsHonestMember new k n e
      → (Lists n s → ⊥)
      → sector_of n e s ≡ sector_of m d s
  pub unmarked : (s k : ℕ) (m n : MemberView) (d e : Disk) → s < old.array.chunks.size
      → IsUnmarkedAt old.array s
      → IsMember old.array k m → slice_get old.disks k ≡ Some d → IsHonestMember new k n e
      → sector_of n e s ≡ sector_of m d s

abbrev pub ResyncsLeaveSources : Type 0
ResyncsLeaveSources =
    (old new : MirrorView) → IsConsistent old → AreHonest old.disks → Resyncs old new → LeavesSources old new

-- Sectors were read without a resync. Of a mirror that holds as much, a resync was done, and then a read of these sectors: it gave the same
-- in each sector of a marked chunk, and in each other in which the members in sync agreed.
abbrev pub ReadsAsResynced : Type 0
ReadsAsResynced =
    (old new : MirrorView) (sector : ℕ) (bytes : List ℕ) → IsConsistent old → AreHonest old.disks
    → ReadsUnresynced sector bytes old new
    → (start ready later : MirrorView) (others : List ℕ) → HoldsAsMuch old start → IsConsistent start
    → AreHonest start.disks → Resyncs start ready
    → Reads sector others ready later → length others ≡ length bytes
    → (i : ℕ) → i < length bytes / 512 → (IsUnmarkedAt old.array (sector + i) → AllAgreeAt old (sector + i))
    → held others i 512 ≡ held bytes i 512
