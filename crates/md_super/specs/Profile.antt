-- The version 1.2 superblocks that this project takes: those of RAID-1 arrays that are in no reshape. The limits are
-- this project's own; the bits are the MD_FEATURE_ bits of md_p.h.
use Rattle.std.specs.Prelude.{◌≡◌, ℕ, ◌<◌, ◌≤◌, bit_and}

-- the bits that are set besides 1 (BITMAP_OFFSET), 2 (RECOVERY_OFFSET) and 8 (BAD_BLOCKS)
abbrev pub unsupported_features : ℕ → ℕ
unsupported_features map = bit_and map 0xffff_fff4

-- what every superblock keeps
pub record IsProfile (feature_map level raid_disks super_offset : ℕ) : Type 0 where
  pub features : unsupported_features feature_map ≡ 0
  pub level_is : level ≡ 1
  pub some_disks : 0 < raid_disks
  pub few_disks : raid_disks ≤ 32
  pub super_offset_is : super_offset ≡ 8
