-- What a superblock has fits its fields, group by group.
use Rattle.std.specs.Prelude.{◌≡◌, ℕ, ◌<◌, ◌^◌, List, length, All, FitsSigned}
use Rattle.std.specs.Int.{w32}
use Rattle.md_super.specs.declared.superblock.Superblock.{Superblock}

pub record ShapeFits (v : Superblock) : Type 0 where
  pub ctime : v.ctime < 2 ^ 64
  pub level : v.level < 2 ^ 32
  pub layout : v.layout < 2 ^ 32
  pub size : v.size < 2 ^ 64
  pub chunksize : v.chunksize < 2 ^ 32
  pub raid_disks : v.raid_disks < 2 ^ 32

pub record ReshapeFits (v : Superblock) : Type 0 where
  pub new_level : v.new_level < 2 ^ 32
  pub reshape_position : v.reshape_position < 2 ^ 64
  pub delta_disks : v.delta_disks < 2 ^ 32
  pub new_layout : v.new_layout < 2 ^ 32
  pub new_chunk : v.new_chunk < 2 ^ 32
  pub new_offset : v.new_offset < 2 ^ 32

pub record PlaceFits (v : Superblock) : Type 0 where
  pub data_offset : v.data_offset < 2 ^ 64
  pub data_size : v.data_size < 2 ^ 64
  pub super_offset : v.super_offset < 2 ^ 64
  pub recovery_offset : v.recovery_offset < 2 ^ 64
  pub dev_number : v.dev_number < 2 ^ 32
  pub cnt_corrected_read : v.cnt_corrected_read < 2 ^ 32

pub record LogFits (v : Superblock) : Type 0 where
  pub devflags : v.devflags < 2 ^ 8
  pub bblog_shift : v.bblog_shift < 2 ^ 8
  pub bblog_size : v.bblog_size < 2 ^ 16
  pub bblog_offset : FitsSigned w32 v.bblog_offset

pub record CountFits (v : Superblock) : Type 0 where
  pub utime : v.utime < 2 ^ 64
  pub events : v.events < 2 ^ 64
  pub resync_offset : v.resync_offset < 2 ^ 64

pub record TextsFit (v : Superblock) : Type 0 where
  pub set_uuid : length v.set_uuid ≡ 16
  pub set_name : length v.set_name ≡ 32
  pub device_uuid : length v.device_uuid ≡ 16

-- what stands before the checksum
pub record FrontFits (v : Superblock) : Type 0 where
  pub texts : TextsFit v
  pub feature_map : v.feature_map < 2 ^ 32
  pub shape : ShapeFits v
  pub bitmap_offset : FitsSigned w32 v.bitmap_offset
  pub reshape : ReshapeFits v
  pub places : PlaceFits v
  pub log : LogFits v
  pub counts : CountFits v

abbrev pub RolesFit : List ℕ → Type 0
RolesFit roles = All (λ role. role < 2 ^ 16) roles
