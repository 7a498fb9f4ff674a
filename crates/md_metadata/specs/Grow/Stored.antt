-- A member gets its bitmap on its device: its writes, and what stands there then.
use Rattle.std.specs.Prelude.{◌≡◌, ◌⊎◌, ℕ, ◌+◌, ◌*◌, ◌<◌, ◌≤◌, true, List, [], ◌∷◌, ◌++◌, length}
use Rattle.md_device.specs.Device.{held}
use Rattle.md_device.specs.Splice.{part}
use Rattle.md_super.specs.declared.superblock.Superblock.{Superblock}
use Rattle.md_super.specs.Encoding.{super_bytes}
use Rattle.md_super.specs.Merge.{merged}
use Rattle.md_bitmap.specs.Sectors.{bitmap_sector, bitmap_sectors}
use Rattle.md_members.specs.DeviceWrites.Bitmaps.{bitmap_writes}
use Rattle.md_members.specs.DeviceWrites.Writes.{DoesWrites, IsCutShort, FailsInWrites, Write}
use Rattle.md_kept_members.specs.OnDevices.Superblocks.{IsReadable, own_write}
use Rattle.md_state.specs.View.{Disk, of_disks}
use Rattle.md_state.specs.DeviceChanges.{LeavesOn}
use Rattle.md_metadata.specs.declared.bitmap_grow.growth.Growth.{Growth}

-- the sectors of the bitmap
abbrev pub sectors_of : Growth → ℕ
sectors_of g = bitmap_sectors g.marks.chunks

-- the bitmap, its first sector last
abbrev pub bitmap_part : Growth → List Write
bitmap_part g = bitmap_writes g.start g.header g.marks (sectors_of g)

-- the bitmap, and then the superblock
abbrev pub grow_writes : Growth → Superblock → List Write
grow_writes g own = bitmap_part g ++ own_write g.shared own ∷ []

-- bytes that lie beside n sectors from `start` on
abbrev pub AreBeside : ℕ → ℕ → ℕ → ℕ → Type 0
AreBeside start n at count = (at + count ≤ 512 * start) ⊎ (512 * (start + n) ≤ at)

-- all bytes beside the superblock and the bitmap's place are as before
pub record KeepsAllBeside (start n : ℕ) (old new : List ℕ) : Type 0 where
  pub size : length new ≡ length old
  pub others : (at count : ℕ) → AreBeside 8 8 at count → AreBeside start n at count → part new at count ≡ part old at count

-- the bitmap and the superblock stand there, and nothing else changed
pub record IsStored (g : Growth) (own : Superblock) (old new : List ℕ) : Type 0 where
  pub superblock : held new 8 4096 ≡ super_bytes (merged g.shared own)
  pub bitmap : (i : ℕ) → i < sectors_of g → held new (g.start + i) 512 ≡ bitmap_sector g.header g.marks i
  pub kept : KeepsAllBeside g.start (sectors_of g) old new

-- A device before and after: at each moment a crash leaves the first of the writes done, and the next one cut short.
pub record GrowsMemberOn (g : Growth) (own : Superblock) (d e : Disk) : Type 0 where
  pub stored : d.honest ≡ true → IsStored g own d.content e.content
  pub within : d.honest ≡ true → LeavesOn (IsCutShort d.content (grow_writes g own)) d e
  pub readable : IsReadable (merged g.shared own)

-- one of these writes failed, and nothing changed but the superblock and the bitmap's place
pub record FailsInPart (g : Growth) (writes : List Write) (d e : Disk) : Type 0 where
  pub stops : FailsInWrites of_disks writes d e
  pub kept : KeepsAllBeside g.start (sectors_of g) d.content e.content

-- the bitmap stands there, and nothing changed but its place and perhaps, of a device that is not honest, the superblock
pub record GetsBitmap (g : Growth) (d e : Disk) : Type 0 where
  pub writes : DoesWrites of_disks (bitmap_part g) d e
  pub kept : KeepsAllBeside g.start (sectors_of g) d.content e.content

-- the superblock stands there that names it, and nothing else changed
pub record GetsSuperblock (g : Growth) (own : Superblock) (d e : Disk) : Type 0 where
  pub writes : DoesWrites of_disks (own_write g.shared own ∷ []) d e
  pub kept : KeepsAllBeside g.start (sectors_of g) d.content e.content
  pub readable : IsReadable (merged g.shared own)
