-- The writes that store all of a member but its data: its marks, its log, and last its superblock (this project's own order).
use Rattle.std.specs.Prelude.{◌≡◌, ℕ, ◌+◌, ◌*◌, ◌≤◌, true, List, [], ◌∷◌, ◌++◌, if◌then◌else◌, ℤ, pos, negsuc, ◌+ℤ◌}
use Rattle.md_device.specs.Splice.{part}
use Rattle.md_super.specs.declared.superblock.Superblock.{Superblock}
use Rattle.md_super.specs.Log.{has_bad_block_log}
use Rattle.md_bitmap.specs.declared.header.BitmapHeader.{BitmapHeader}
use Rattle.md_badblocks.specs.declared.run.Run.{Run}
use Rattle.md_badblocks.specs.Log.{log_bytes}
use Rattle.md_members.specs.Areas.{AreAreasPlaced, bitmap_sectors, has_bitmap}
use Rattle.md_members.specs.Members.{sectors_of_device}
use Rattle.md_members.specs.DeviceWrites.Bitmaps.{bitmap_writes}
use Rattle.md_members.specs.DeviceWrites.Writes.{Write}
use Rattle.md_kept_members.specs.Enrolling.{HasRoomFor, log_room}
use Rattle.md_kept_members.specs.View.{MemberView}
use Rattle.md_kept_members.specs.OnDevices.Superblocks.{write_of}

-- a sector that is counted from the superblock
abbrev pub sector_at : ℤ → ℕ
sector_at (pos n) = n
sector_at (negsuc n) = 0

abbrev pub sector_from_super : ℤ → ℕ
sector_from_super offset = sector_at (pos 8 +ℤ offset)

-- A member's parts lie on a device, and its log has room for its list: all of it but its data may be stored there.
pub record IsStorable (n : MemberView) (content : List ℕ) : Type 0 where
  pub long : 16 ≤ sectors_of_device content
  pub has : has_bitmap n.superblock ≡ true
  pub placed : AreAreasPlaced (sectors_of_device content) n.superblock (bitmap_sectors n.stored.chunks)
  pub few_chunks : n.stored.chunks ≤ 1048576
  pub room : HasRoomFor n.superblock n.bad

-- a list is stored in the log that a superblock names, where it names one
abbrev pub log_writes : Superblock → List Run → List Write
log_writes own list =
    if has_bad_block_log own then record { sector = sector_from_super own.bblog_offset; bytes = log_bytes list (log_room own) } ∷ [] else []

-- what stores all of a member but its data: its marks with this header, from this sector on, the bitmap's first sector last; its log;
-- and its superblock beside these fields of the array
abbrev pub member_writes : ℕ → BitmapHeader → Superblock → MemberView → List Write
member_writes start header shared n =
    bitmap_writes start header n.stored (bitmap_sectors n.stored.chunks) ++ (log_writes n.superblock n.bad ++ write_of shared n ∷ [])

-- data stays: at most the member's superblock, bitmap and log change
abbrev pub KeepsDataOn : MemberView → List ℕ → List ℕ → Type 0
KeepsDataOn m old new =
    (at n : ℕ) → 512 * m.superblock.data_offset ≤ at → at + n ≤ 512 * (m.superblock.data_offset + m.superblock.data_size) → part new at n ≡ part old at n
