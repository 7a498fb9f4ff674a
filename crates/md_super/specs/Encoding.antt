-- The bytes that are written for a superblock: its fields at their places (`struct mdp_superblock_1` of md_p.h), with
-- zeros for the padding and after the roles.
use Rattle.std.specs.Prelude.{ℕ, ◌-◌, ◌*◌, List, [], ◌∷◌, ◌++◌, length, replicate}
use Rattle.std.specs.List.{flat_map}
use Rattle.std.specs.Int.{w32, cast_unsigned}
use Rattle.byteorder.specs.Endian.{little_bytes}
use Rattle.md_super.specs.Checksum.{checksum_of}
use Rattle.md_super.specs.declared.superblock.Superblock.{Superblock}

-- bytes 0 to 15
unfoldable pub head_bytes : Superblock → List ℕ
head_bytes v = little_bytes 4 0xa92b4efc ++ little_bytes 4 1 ++ little_bytes 4 v.feature_map ++ little_bytes 4 0

-- bytes 64 to 95
unfoldable pub shape_bytes : Superblock → List ℕ
shape_bytes v =
    little_bytes 8 v.ctime ++ little_bytes 4 v.level ++ little_bytes 4 v.layout ++ little_bytes 8 v.size
    ++ little_bytes 4 v.chunksize ++ little_bytes 4 v.raid_disks

-- bytes 96 to 99
unfoldable pub bitmap_offset_bytes : Superblock → List ℕ
bitmap_offset_bytes v = little_bytes 4 (cast_unsigned w32 v.bitmap_offset)

-- bytes 100 to 127
unfoldable pub reshape_bytes : Superblock → List ℕ
reshape_bytes v =
    little_bytes 4 v.new_level ++ little_bytes 8 v.reshape_position ++ little_bytes 4 v.delta_disks
    ++ little_bytes 4 v.new_layout ++ little_bytes 4 v.new_chunk ++ little_bytes 4 v.new_offset

-- bytes 128 to 167
unfoldable pub place_bytes : Superblock → List ℕ
place_bytes v =
    little_bytes 8 v.data_offset ++ little_bytes 8 v.data_size ++ little_bytes 8 v.super_offset
    ++ little_bytes 8 v.recovery_offset ++ little_bytes 4 v.dev_number ++ little_bytes 4 v.cnt_corrected_read

-- bytes 184 to 191
unfoldable pub log_field_bytes : Superblock → List ℕ
log_field_bytes v =
    (v.devflags ∷ v.bblog_shift ∷ []) ++ little_bytes 2 v.bblog_size ++ little_bytes 4 (cast_unsigned w32 v.bblog_offset)

-- bytes 192 to 215
unfoldable pub state_bytes : Superblock → List ℕ
state_bytes v = little_bytes 8 v.utime ++ little_bytes 8 v.events ++ little_bytes 8 v.resync_offset

-- bytes 0 to 215, before the checksum
unfoldable pub front_bytes : Superblock → List ℕ
front_bytes v =
    head_bytes v ++ v.set_uuid ++ v.set_name ++ shape_bytes v ++ bitmap_offset_bytes v ++ reshape_bytes v ++ place_bytes v
    ++ v.device_uuid ++ log_field_bytes v ++ state_bytes v

-- bytes 220 to 4095, after the checksum
unfoldable pub back_bytes : List ℕ → List ℕ
back_bytes roles =
    little_bytes 4 (length roles) ++ replicate 32 0 ++ flat_map (little_bytes 2) roles
    ++ replicate (3840 - 2 * length roles) 0

-- all bytes, with a number in the checksum's place
unfoldable pub bytes_with : ℕ → Superblock → List ℕ
bytes_with sum v = front_bytes v ++ little_bytes 4 sum ++ back_bytes v.roles

-- all bytes, with their checksum
unfoldable pub super_bytes : Superblock → List ℕ
super_bytes v = bytes_with (checksum_of (bytes_with 0 v) (length v.roles)) v
