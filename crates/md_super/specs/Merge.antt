-- The superblocks of one array's members: what they share, and what is each member's own (md.c).
use Rattle.md_super.specs.declared.superblock.Superblock.{Superblock}

-- the array's fields of the first, and the member's own of the second
abbrev pub merged : Superblock → Superblock → Superblock
merged shared own = record shared {
  feature_map = own.feature_map;
  bitmap_offset = own.bitmap_offset;
  data_offset = own.data_offset;
  data_size = own.data_size;
  super_offset = own.super_offset;
  recovery_offset = own.recovery_offset;
  dev_number = own.dev_number;
  cnt_corrected_read = own.cnt_corrected_read;
  device_uuid = own.device_uuid;
  devflags = own.devflags;
  bblog_shift = own.bblog_shift;
  bblog_size = own.bblog_size;
  bblog_offset = own.bblog_offset;
  in_profile = record {
    features = own.in_profile.features;
    level_is = shared.in_profile.level_is;
    some_disks = shared.in_profile.some_disks;
    few_disks = shared.in_profile.few_disks;
    super_offset_is = own.in_profile.super_offset_is;
  };
}
