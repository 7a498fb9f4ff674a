-- Devices and the array that is kept of them fit one another, so that marks may be stored on the members.
use Rattle.std.specs.Prelude.{◌≡◌, ℕ, ◌^◌, ◌≤◌, true, List, length, slice_get, Some}
use Rattle.md_bitmap.specs.Sound.{IsSoundHeader}
use Rattle.md_members.specs.Areas.{AreAreasPlaced, bitmap_sectors, has_bitmap}
use Rattle.md_members.specs.Members.{reads_log, sectors_of_device}
use Rattle.md_kept_members.specs.View.{MemberView}
use Rattle.md_state.specs.View.{Disk, ArrayView}
use Rattle.md_state.specs.Members.{IsMember}
use Rattle.md_state.specs.Missing.{is_rebuilt}
use Rattle.md_array.specs.Worlds.{lies_in}

-- Of a member that is rebuilt: where its list in memory has anything, its superblock that is kept tells of its log.
abbrev pub TellsOfList : MemberView → Type 0
TellsOfList m = is_rebuilt m.state ≡ true → (sector : ℕ) → lies_in m.bad sector ≡ true → reads_log m.superblock ≡ true

-- A member's parts lie on its device, and its chunks fit the size of the array.
pub record FitsMember (a : ArrayView) (m : MemberView) (d : Disk) : Type 0 where
  pub long : 16 ≤ sectors_of_device d.content
  pub short : sectors_of_device d.content ≤ 2 ^ 54  -- as long as any device
  pub has : has_bitmap m.superblock ≡ true
  pub placed : AreAreasPlaced (sectors_of_device d.content) m.superblock (bitmap_sectors m.stored.chunks)
  pub few_chunks : m.stored.chunks ≤ 1048576
  pub sound : IsSoundHeader a.shared.size m.header.chunksize
  pub told : TellsOfList m

-- as many devices as members, and each fits its member
pub record Fits (disks : List Disk) (a : ArrayView) : Type 0 where
  pub as_many : length disks ≡ length a.members
  pub each : (k : ℕ) (d : Disk) (m : MemberView) → slice_get disks k ≡ Some d → IsMember a k m → FitsMember a m d
