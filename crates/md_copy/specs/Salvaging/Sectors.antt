-- Sectors that the target of a salvage holds, and sectors that no member in sync gave (this project's own).
use Rattle.std.specs.Prelude.{◌≡◌, ◌≢◌, ℕ, ◌+◌, ◌*◌, ◌/◌, ◌<◌, ◌≤◌, true, List, slice_get, Some}
use Rattle.md_bitmap.specs.Chunks.{InChunk}
use Rattle.md_bitmap.specs.Marks.{Bitmap, is_set}
use Rattle.md_device.specs.Splice.{part}
use Rattle.md_kept_members.specs.Permitting.{ListsAny}
use Rattle.md_kept_members.specs.View.{MemberView}
use Rattle.md_state.specs.Members.{IsInSync, IsMember}
use Rattle.md_state.specs.Missing.{is_missing}
use Rattle.md_state.specs.Steps.CopyData.{Lists}
use Rattle.md_state.specs.View.{ArrayView, Disk, MirrorView}

-- what a device of the member has as this sector of the array
abbrev pub bytes_of_sector : MemberView → List ℕ → ℕ → List ℕ
bytes_of_sector m content s = part content (512 * (m.superblock.data_offset + s)) 512

-- Another member is in sync and does not list the sector, and the target has it as this member has, where the two devices are honest.
pub record IsSectorHeld (v : MirrorView) (target s : ℕ) : Type 0 where
  pub at : ℕ
  pub member : MemberView
  pub other : at ≢ target
  pub in_sync : IsInSync v.array at member
  pub unlisted : Lists member s → ⊥
  pub same : (m : MemberView) (d e : Disk) → IsMember v.array target m → slice_get v.disks at ≡ Some d → slice_get v.disks target ≡ Some e
      → d.honest ≡ true → e.honest ≡ true → bytes_of_sector m e.content s ≡ bytes_of_sector member d.content s

-- The sector is in the array, in a chunk that the member lacks.
pub record IsLacked (a : ArrayView) (m : MemberView) (s : ℕ) : Type 0 where
  pub inside : s < a.chunks.size
  pub missing : is_missing a m (s / a.chunks.sectors) ≡ true

-- Of the chunks that the member lacks this is a set, and it has each of which the member lists a sector.
pub record AreLackedChunks (a : ArrayView) (m : MemberView) (set : Bitmap) : Type 0 where
  pub chunks : set.chunks ≡ a.marks.chunks
  pub lacked : (c : ℕ) → c < a.marks.chunks → is_set set.bytes c ≡ true → is_missing a m c ≡ true
  pub listed : (c : ℕ) → c < a.marks.chunks → is_missing a m c ≡ true → ListsAny a.chunks c m → is_set set.bytes c ≡ true

-- the target lacks these sectors
abbrev pub AreLacked : MirrorView → ℕ → ℕ → ℕ → Type 0
AreLacked v target from to = (m : MemberView) → IsMember v.array target m → (s : ℕ) → from ≤ s → s < to → IsLacked v.array m s

-- The target holds each sector of these chunks. One that it does not lack any more it does not list.
pub record AreSectorsHeld (v : MirrorView) (target : ℕ) (copied : Bitmap) : Type 0 where
  pub chunks : copied.chunks ≡ v.array.marks.chunks
  pub held : (c s : ℕ) → c < v.array.marks.chunks → is_set copied.bytes c ≡ true → InChunk v.array.chunks.sectors v.array.chunks.size c s → IsSectorHeld v target s
  pub unlisted : (m : MemberView) → IsMember v.array target m
      → (c : ℕ) → c < v.array.marks.chunks → is_set copied.bytes c ≡ true → (is_missing v.array m c ≡ true → ⊥) → ListsAny v.array.chunks c m → ⊥
