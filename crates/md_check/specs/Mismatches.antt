-- Mismatches: the chunks in which two members in sync differ in a sector that neither lists (`check` of the kernel's md driver counts
-- sectors; the count of chunks is this project's own).
use Rattle.std.specs.Prelude.{◌≡◌, ℕ, ◌+◌, ◌↔◌, true, List, slice_get, Some}
use Rattle.md_device.specs.Device.{held}
use Rattle.md_bitmap.specs.Chunks.{InChunk}
use Rattle.md_bitmap.specs.Marks.{Bitmap, is_set, count_set}
use Rattle.md_badblocks.specs.Runs.{IsBad}
use Rattle.md_kept_members.specs.View.{MemberView}
use Rattle.md_state.specs.View.{ArrayView, Disk}
use Rattle.md_state.specs.Members.{IsInSync}
use Rattle.md_check.specs.Differences.{DifferBetween, DifferIn}

-- member k is in sync and does not list sector s of the array, and these bytes stand there
pub record Shows (disks : List Disk) (a : ArrayView) (k s : ℕ) (bytes : List ℕ) : Type 0 where
  pub disk : Disk
  pub member : MemberView
  pub there : slice_get disks k ≡ Some disk
  pub in_sync : IsInSync a k member
  pub unlisted : IsBad member.bad (member.superblock.data_offset + s) → ⊥
  pub is : held disk.content (member.superblock.data_offset + s) 512 ≡ bytes

-- some two of them show different bytes in a sector of the chunk
pub record Mismatches (disks : List Disk) (a : ArrayView) (c : ℕ) : Type 0 where
  pub sector : ℕ
  pub inside : InChunk a.chunks.sectors a.chunks.size c sector
  pub differ : DifferIn (Shows disks a) sector

-- these two show different bytes in a sector of the chunk
pub record MismatchesBetween (disks : List Disk) (a : ArrayView) (one other c : ℕ) : Type 0 where
  pub sector : ℕ
  pub inside : InChunk a.chunks.sectors a.chunks.size c sector
  pub differ : DifferBetween (Shows disks a) one other sector

-- in how many chunks some two do: the set of them, and its number
pub record CountsMismatches (disks : List Disk) (a : ArrayView) (count : ℕ) : Type 0 where
  pub set : Bitmap
  pub chunks : set.chunks ≡ a.marks.chunks
  pub bits : (c : ℕ) → (is_set set.bytes c ≡ true) ↔ Mismatches disks a c
  pub is : count ≡ count_set set.bytes set.chunks
