-- A superblock is determined by its bytes.
use Rattle.std.proofs.Common.{◌≡◌, ℕ, List, sym, ◌∙◌}
use mathlib.Core.HLevel.{is_prop→PathP}
use Rattle.std.proofs.Math.Nat.{ℕ_set}
use Rattle.std.proofs.Math.Bridge.{le_prop}
use Rattle.md_super.specs.Format.{IsSuper}
use Rattle.md_super.specs.Profile.{IsProfile}
use Rattle.md_super.specs.declared.superblock.Superblock.{Superblock}

IsProfile-prop : (feature_map level raid_disks super_offset : ℕ) → IsProp (IsProfile feature_map level raid_disks super_offset)
IsProfile-prop feature_map level raid_disks super_offset a b = λ i. record {
  features = ℕ_set _ _ a.features b.features i;
  level_is = ℕ_set _ _ a.level_is b.level_is i;
  some_disks = le_prop a.some_disks b.some_disks i;
  few_disks = le_prop a.few_disks b.few_disks i;
  super_offset_is = ℕ_set _ _ a.super_offset_is b.super_offset_is i;
}

pub unique : (bytes : List ℕ) (v w : Superblock) → IsSuper bytes v → IsSuper bytes w → v ≡ w
unique bytes v w a b = λ i. record {
  feature_map = (a.feature_map ∙ sym b.feature_map) i;
  set_uuid = (a.set_uuid ∙ sym b.set_uuid) i;
  set_name = (a.set_name ∙ sym b.set_name) i;
  ctime = (a.ctime ∙ sym b.ctime) i;
  level = (a.level ∙ sym b.level) i;
  layout = (a.layout ∙ sym b.layout) i;
  size = (a.size ∙ sym b.size) i;
  chunksize = (a.chunksize ∙ sym b.chunksize) i;
  raid_disks = (a.raid_disks ∙ sym b.raid_disks) i;
  bitmap_offset = (a.bitmap_offset ∙ sym b.bitmap_offset) i;
  new_level = (a.new_level ∙ sym b.new_level) i;
  reshape_position = (a.reshape_position ∙ sym b.reshape_position) i;
  delta_disks = (a.delta_disks ∙ sym b.delta_disks) i;
  new_layout = (a.new_layout ∙ sym b.new_layout) i;
  new_chunk = (a.new_chunk ∙ sym b.new_chunk) i;
  new_offset = (a.new_offset ∙ sym b.new_offset) i;
  data_offset = (a.data_offset ∙ sym b.data_offset) i;
  data_size = (a.data_size ∙ sym b.data_size) i;
  super_offset = (a.super_offset ∙ sym b.super_offset) i;
  recovery_offset = (a.recovery_offset ∙ sym b.recovery_offset) i;
  dev_number = (a.dev_number ∙ sym b.dev_number) i;
  cnt_corrected_read = (a.cnt_corrected_read ∙ sym b.cnt_corrected_read) i;
  device_uuid = (a.device_uuid ∙ sym b.device_uuid) i;
  devflags = (a.devflags ∙ sym b.devflags) i;
  bblog_shift = (a.bblog_shift ∙ sym b.bblog_shift) i;
  bblog_size = (a.bblog_size ∙ sym b.bblog_size) i;
  bblog_offset = (a.bblog_offset ∙ sym b.bblog_offset) i;
  utime = (a.utime ∙ sym b.utime) i;
  events = (a.events ∙ sym b.events) i;
  resync_offset = (a.resync_offset ∙ sym b.resync_offset) i;
  sb_csum = (a.sb_csum ∙ sym b.sb_csum) i;
  roles = (a.roles ∙ sym b.roles) i;
  in_profile = is_prop→PathP
      (λ j. IsProfile ((a.feature_map ∙ sym b.feature_map) j) ((a.level ∙ sym b.level) j) ((a.raid_disks ∙ sym b.raid_disks) j) ((a.super_offset ∙ sym b.super_offset) j))
      (λ j. IsProfile-prop _ _ _ _) v.in_profile w.in_profile i;
}
