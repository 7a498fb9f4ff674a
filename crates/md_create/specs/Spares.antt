-- What a device says that comes in as a spare of an array (this project's own choice among what md_p.h and md-bitmap.h allow).
use Rattle.std.specs.Prelude.{◌≡◌, ℕ, ◌+◌, false, pos}
use Rattle.md_super.specs.declared.superblock.Superblock.{Superblock}
use Rattle.md_bitmap.specs.declared.header.BitmapHeader.{BitmapHeader}
use Rattle.md_bitmap.specs.Sound.{chunk_count}
use Rattle.md_create.specs.declared.params.NewMember.{NewMember}
use Rattle.md_create.specs.Values.{HasFirstMarks, device_uuid_of}

-- A spare's superblock, beside the fields of the array as they are once it has come in. A field that the
-- array has otherwise, as its layout, is 0 until its first record.
pub record IsSpareSuper (array : Superblock) (number sectors : ℕ) (v : Superblock) : Type 0 where
  pub feature_map : v.feature_map ≡ 1
  pub set_uuid : v.set_uuid ≡ array.set_uuid
  pub set_name : v.set_name ≡ array.set_name
  pub ctime : v.ctime ≡ array.ctime
  pub level : v.level ≡ 1
  pub layout : v.layout ≡ 0
  pub size_is : v.size ≡ array.size
  pub chunksize : v.chunksize ≡ 0
  pub raid_disks : v.raid_disks ≡ array.raid_disks
  pub bitmap_offset : v.bitmap_offset ≡ pos 8
  pub new_level : v.new_level ≡ 0
  pub reshape_position : v.reshape_position ≡ 0
  pub delta_disks : v.delta_disks ≡ 0
  pub new_layout : v.new_layout ≡ 0
  pub new_chunk : v.new_chunk ≡ 0
  pub new_offset : v.new_offset ≡ 0
  pub data_offset : v.data_offset ≡ 2048
  pub data_size : 2048 + v.data_size ≡ sectors
  pub super_offset : v.super_offset ≡ 8
  pub recovery_offset : v.recovery_offset ≡ 0
  pub dev_number : v.dev_number ≡ number
  pub cnt_corrected_read : v.cnt_corrected_read ≡ 0
  pub device_uuid : v.device_uuid ≡ device_uuid_of array.set_uuid number
  pub devflags : v.devflags ≡ 0
  pub bblog_shift : v.bblog_shift ≡ 0
  pub bblog_size : v.bblog_size ≡ 8
  pub bblog_offset : v.bblog_offset ≡ pos 2024
  pub utime : v.utime ≡ array.utime
  pub events : v.events ≡ array.events
  pub resync_offset : v.resync_offset ≡ array.resync_offset
  pub sb_csum : v.sb_csum ≡ 0
  pub roles : v.roles ≡ array.roles

-- a spare: all chunks are marked
pub record IsNewSpare (array : Superblock) (h : BitmapHeader) (number sectors : ℕ) (m : NewMember) : Type 0 where
  pub superblock : IsSpareSuper array number sectors m.superblock
  pub header : m.header ≡ h
  pub marks : HasFirstMarks false (chunk_count array.size h.chunksize) m.marks
