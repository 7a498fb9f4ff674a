-- The fields of a version 1 superblock (`struct mdp_superblock_1` of md_p.h).
use Rattle.std.specs.Prelude.{◌≡◌, ℕ, ◌+◌, ◌*◌, List, map}
use Rattle.std.specs.List.{range_with_len}
use Rattle.std.specs.Int.{w32, cast_signed}
use Rattle.md_format.specs.Fields.{number_at, bytes_at}
use Rattle.md_super.specs.declared.superblock.Superblock.{Superblock}

-- the roles of the first count devices
unfoldable pub roles_in : ℕ → List ℕ → List ℕ
roles_in count bytes = map (λ i. number_at 2 (256 + 2 * i) bytes) (range_with_len 0 count)

-- the bytes spell the superblock: an equation for each field, none for the padding or the bytes past the roles
pub record IsSuper (bytes : List ℕ) (v : Superblock) : Type 0 where
  pub magic : number_at 4 0 bytes ≡ 0xa92b4efc
  pub major_version : number_at 4 4 bytes ≡ 1
  pub feature_map : v.feature_map ≡ number_at 4 8 bytes
  pub set_uuid : v.set_uuid ≡ bytes_at 16 16 bytes
  pub set_name : v.set_name ≡ bytes_at 32 32 bytes
  pub ctime : v.ctime ≡ number_at 8 64 bytes
  pub level : v.level ≡ number_at 4 72 bytes
  pub layout : v.layout ≡ number_at 4 76 bytes
  pub size : v.size ≡ number_at 8 80 bytes
  pub chunksize : v.chunksize ≡ number_at 4 88 bytes
  pub raid_disks : v.raid_disks ≡ number_at 4 92 bytes
  pub bitmap_offset : v.bitmap_offset ≡ cast_signed w32 (number_at 4 96 bytes)
  pub new_level : v.new_level ≡ number_at 4 100 bytes
  pub reshape_position : v.reshape_position ≡ number_at 8 104 bytes
  pub delta_disks : v.delta_disks ≡ number_at 4 112 bytes
  pub new_layout : v.new_layout ≡ number_at 4 116 bytes
  pub new_chunk : v.new_chunk ≡ number_at 4 120 bytes
  pub new_offset : v.new_offset ≡ number_at 4 124 bytes
  pub data_offset : v.data_offset ≡ number_at 8 128 bytes
  pub data_size : v.data_size ≡ number_at 8 136 bytes
  pub super_offset : v.super_offset ≡ number_at 8 144 bytes
  pub recovery_offset : v.recovery_offset ≡ number_at 8 152 bytes
  pub dev_number : v.dev_number ≡ number_at 4 160 bytes
  pub cnt_corrected_read : v.cnt_corrected_read ≡ number_at 4 164 bytes
  pub device_uuid : v.device_uuid ≡ bytes_at 16 168 bytes
  pub devflags : v.devflags ≡ number_at 1 184 bytes
  pub bblog_shift : v.bblog_shift ≡ number_at 1 185 bytes
  pub bblog_size : v.bblog_size ≡ number_at 2 186 bytes
  pub bblog_offset : v.bblog_offset ≡ cast_signed w32 (number_at 4 188 bytes)
  pub utime : v.utime ≡ number_at 8 192 bytes
  pub events : v.events ≡ number_at 8 200 bytes
  pub resync_offset : v.resync_offset ≡ number_at 8 208 bytes
  pub sb_csum : v.sb_csum ≡ number_at 4 216 bytes
  pub roles : v.roles ≡ roles_in (number_at 4 220 bytes) bytes
