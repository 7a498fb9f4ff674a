-- What is read at the places of a superblock's bytes.
use Rattle.std.proofs.Common.{◌≡◌, ℕ, ℤ, ◌+◌, ◌-◌, ◌*◌, ◌^◌, ◌<◌, ◌≤◌, List, [], ◌∷◌, ◌++◌, length, map, sum, take, get_or, replicate, refl, sym, ap, ◌∙◌, append_assoc, FitsSigned, arith}
use Rattle.std.specs.List.{concat, flat_map}
use Rattle.std.specs.Int.{w32, cast_signed, cast_unsigned}
use Rattle.std.proofs.Math.Facts.{Fits-of_z}
use Rattle.std.proofs.lemmas.Int.{to_z-of_z}
use Rattle.std.proofs.lemmas.List.{append-nil, length-replicate}
use Rattle.byteorder.specs.Endian.{little_bytes}
use Rattle.byteorder.specs.Numbers.{little_number-reads_back}
use Rattle.md_format.specs.Fields.{number_at, bytes_at}
use Rattle.md_format.proofs.Parts.{field, part_at}
use Rattle.md_super.specs.Encoding.{head_bytes, shape_bytes, bitmap_offset_bytes, reshape_bytes, place_bytes, log_field_bytes, state_bytes, front_bytes, back_bytes, bytes_with}
use Rattle.md_super.specs.Fits.{ShapeFits, ReshapeFits, PlaceFits, LogFits, CountFits, TextsFit, FrontFits, RolesFit}
use Rattle.md_super.specs.Format.{IsSuper}
use Rattle.md_super.specs.declared.superblock.Superblock.{Superblock}
use Rattle.md_super.proofs.RoleLists.{length-flat_map_two, roles_read_back}

-- the parts of the bytes, and their lengths
abbrev parts : ℕ → Superblock → List (List ℕ)
parts total v =
    head_bytes v ∷ v.set_uuid ∷ v.set_name ∷ shape_bytes v ∷ bitmap_offset_bytes v ∷ reshape_bytes v ∷ place_bytes v
    ∷ v.device_uuid ∷ log_field_bytes v ∷ state_bytes v ∷ little_bytes 4 total ∷ little_bytes 4 (length v.roles)
    ∷ replicate 32 0 ∷ flat_map (little_bytes 2) v.roles ∷ replicate (3840 - 2 * length v.roles) 0 ∷ []

abbrev lengths : ℕ → List ℕ
lengths count =
    16 ∷ 16 ∷ 32 ∷ 32 ∷ 4 ∷ 28 ∷ 40 ∷ 16 ∷ 8 ∷ 24 ∷ 4 ∷ 4 ∷ 32 ∷ (2 * count) ∷ (3840 - 2 * count) ∷ []

regroup : (a b c d e f g h i j s m p r z : List ℕ) →
    (a ++ b ++ c ++ d ++ e ++ f ++ g ++ h ++ i ++ j) ++ s ++ (m ++ p ++ r ++ z)
    ≡ concat (a ∷ b ∷ c ∷ d ∷ e ∷ f ∷ g ∷ h ∷ i ∷ j ∷ s ∷ m ∷ p ∷ r ∷ z ∷ [])
regroup a b c d e f g h i j s m p r z = simp (append_assoc, append-nil)

in_parts : (total : ℕ) (v : Superblock) → bytes_with total v ≡ concat (parts total v)
unfolding bytes_with front_bytes back_bytes
in_parts total v = regroup (head_bytes v) v.set_uuid v.set_name (shape_bytes v) (bitmap_offset_bytes v) (reshape_bytes v) (place_bytes v) v.device_uuid (log_field_bytes v) (state_bytes v) (little_bytes 4 total) (little_bytes 4 (length v.roles)) (replicate 32 0) (flat_map (little_bytes 2) v.roles) (replicate (3840 - 2 * length v.roles) 0)

lengths_of : (total : ℕ) (v : Superblock) → TextsFit v → map length (parts total v) ≡ lengths (length v.roles)
unfolding head_bytes shape_bytes bitmap_offset_bytes reshape_bytes place_bytes log_field_bytes state_bytes
lengths_of total v fit = rw (fit.set_uuid, fit.set_name, fit.device_uuid, length-flat_map_two v.roles, length-replicate {A = ℕ} (3840 - 2 * length v.roles) 0) refl

-- the fields of each group
shape_read : (v : Superblock) (bytes : List ℕ) → ShapeFits v → bytes_at 32 64 bytes ≡ shape_bytes v →
    (v.ctime ≡ number_at 8 64 bytes) × (v.level ≡ number_at 4 72 bytes) × (v.layout ≡ number_at 4 76 bytes) × (v.size ≡ number_at 8 80 bytes) × (v.chunksize ≡ number_at 4 88 bytes) × (v.raid_disks ≡ number_at 4 92 bytes)
unfolding number_at shape_bytes
shape_read v bytes fit e = (
  field 8 64 32 0 v.ctime bytes (shape_bytes v) e (omega arith) (little_number-reads_back 8 v.ctime [] fit.ctime),
  field 4 64 32 8 v.level bytes (shape_bytes v) e (omega arith) (little_number-reads_back 4 v.level [] fit.level),
  field 4 64 32 12 v.layout bytes (shape_bytes v) e (omega arith) (little_number-reads_back 4 v.layout [] fit.layout),
  field 8 64 32 16 v.size bytes (shape_bytes v) e (omega arith) (little_number-reads_back 8 v.size [] fit.size),
  field 4 64 32 24 v.chunksize bytes (shape_bytes v) e (omega arith) (little_number-reads_back 4 v.chunksize [] fit.chunksize),
  field 4 64 32 28 v.raid_disks bytes (shape_bytes v) e (omega arith) (little_number-reads_back 4 v.raid_disks [] fit.raid_disks),
)

reshape_read : (v : Superblock) (bytes : List ℕ) → ReshapeFits v → bytes_at 28 100 bytes ≡ reshape_bytes v →
    (v.new_level ≡ number_at 4 100 bytes) × (v.reshape_position ≡ number_at 8 104 bytes) × (v.delta_disks ≡ number_at 4 112 bytes) × (v.new_layout ≡ number_at 4 116 bytes) × (v.new_chunk ≡ number_at 4 120 bytes) × (v.new_offset ≡ number_at 4 124 bytes)
unfolding number_at reshape_bytes
reshape_read v bytes fit e = (
  field 4 100 28 0 v.new_level bytes (reshape_bytes v) e (omega arith) (little_number-reads_back 4 v.new_level [] fit.new_level),
  field 8 100 28 4 v.reshape_position bytes (reshape_bytes v) e (omega arith) (little_number-reads_back 8 v.reshape_position [] fit.reshape_position),
  field 4 100 28 12 v.delta_disks bytes (reshape_bytes v) e (omega arith) (little_number-reads_back 4 v.delta_disks [] fit.delta_disks),
  field 4 100 28 16 v.new_layout bytes (reshape_bytes v) e (omega arith) (little_number-reads_back 4 v.new_layout [] fit.new_layout),
  field 4 100 28 20 v.new_chunk bytes (reshape_bytes v) e (omega arith) (little_number-reads_back 4 v.new_chunk [] fit.new_chunk),
  field 4 100 28 24 v.new_offset bytes (reshape_bytes v) e (omega arith) (little_number-reads_back 4 v.new_offset [] fit.new_offset),
)

places_read : (v : Superblock) (bytes : List ℕ) → PlaceFits v → bytes_at 40 128 bytes ≡ place_bytes v →
    (v.data_offset ≡ number_at 8 128 bytes) × (v.data_size ≡ number_at 8 136 bytes) × (v.super_offset ≡ number_at 8 144 bytes) × (v.recovery_offset ≡ number_at 8 152 bytes) × (v.dev_number ≡ number_at 4 160 bytes) × (v.cnt_corrected_read ≡ number_at 4 164 bytes)
unfolding number_at place_bytes
places_read v bytes fit e = (
  field 8 128 40 0 v.data_offset bytes (place_bytes v) e (omega arith) (little_number-reads_back 8 v.data_offset [] fit.data_offset),
  field 8 128 40 8 v.data_size bytes (place_bytes v) e (omega arith) (little_number-reads_back 8 v.data_size [] fit.data_size),
  field 8 128 40 16 v.super_offset bytes (place_bytes v) e (omega arith) (little_number-reads_back 8 v.super_offset [] fit.super_offset),
  field 8 128 40 24 v.recovery_offset bytes (place_bytes v) e (omega arith) (little_number-reads_back 8 v.recovery_offset [] fit.recovery_offset),
  field 4 128 40 32 v.dev_number bytes (place_bytes v) e (omega arith) (little_number-reads_back 4 v.dev_number [] fit.dev_number),
  field 4 128 40 36 v.cnt_corrected_read bytes (place_bytes v) e (omega arith) (little_number-reads_back 4 v.cnt_corrected_read [] fit.cnt_corrected_read),
)

counts_read : (v : Superblock) (bytes : List ℕ) → CountFits v → bytes_at 24 192 bytes ≡ state_bytes v →
    (v.utime ≡ number_at 8 192 bytes) × (v.events ≡ number_at 8 200 bytes) × (v.resync_offset ≡ number_at 8 208 bytes)
unfolding number_at state_bytes
counts_read v bytes fit e = (
  field 8 192 24 0 v.utime bytes (state_bytes v) e (omega arith) (little_number-reads_back 8 v.utime [] fit.utime),
  field 8 192 24 8 v.events bytes (state_bytes v) e (omega arith) (little_number-reads_back 8 v.events [] fit.events),
  field 8 192 24 16 v.resync_offset bytes (state_bytes v) e (omega arith) (little_number-reads_back 8 v.resync_offset [] fit.resync_offset),
)

head_read : (v : Superblock) (bytes : List ℕ) → v.feature_map < 2 ^ 32 → bytes_at 16 0 bytes ≡ head_bytes v →
    (0xa92b4efc ≡ number_at 4 0 bytes) × (1 ≡ number_at 4 4 bytes) × (v.feature_map ≡ number_at 4 8 bytes)
unfolding number_at head_bytes
head_read v bytes fit e = (
  field 4 0 16 0 0xa92b4efc bytes (head_bytes v) e (omega arith) refl,
  field 4 0 16 4 1 bytes (head_bytes v) e (omega arith) refl,
  field 4 0 16 8 v.feature_map bytes (head_bytes v) e (omega arith) (little_number-reads_back 4 v.feature_map (little_bytes 4 0) fit),
)

bits_fit : (z : ℤ) → FitsSigned w32 z → cast_unsigned w32 z < 2 ^ 32
bits_fit z fit = omega (arith, Fits-of_z {w = w32} fit)

bitmap_read : (v : Superblock) (bytes : List ℕ) → FitsSigned w32 v.bitmap_offset → bytes_at 4 96 bytes ≡ bitmap_offset_bytes v → v.bitmap_offset ≡ cast_signed w32 (number_at 4 96 bytes)
unfolding number_at bitmap_offset_bytes
bitmap_read v bytes fit e =
    let bits = cast_unsigned w32 v.bitmap_offset in
    sym (to_z-of_z w32 v.bitmap_offset fit)
    ∙ ap (cast_signed w32) (field 4 96 4 0 bits bytes (bitmap_offset_bytes v) e (omega arith) (little_number-reads_back 4 bits [] (bits_fit v.bitmap_offset fit)))

log_read : (v : Superblock) (bytes : List ℕ) → LogFits v → bytes_at 8 184 bytes ≡ log_field_bytes v →
    (v.devflags ≡ number_at 1 184 bytes) × (v.bblog_shift ≡ number_at 1 185 bytes) × (v.bblog_size ≡ number_at 2 186 bytes) × (v.bblog_offset ≡ cast_signed w32 (number_at 4 188 bytes))
unfolding number_at log_field_bytes
log_read v bytes fit e =
    let bits = cast_unsigned w32 v.bblog_offset in (
      field 1 184 8 0 v.devflags bytes (log_field_bytes v) e (omega arith) (omega arith),
      field 1 184 8 1 v.bblog_shift bytes (log_field_bytes v) e (omega arith) (omega arith),
      field 2 184 8 2 v.bblog_size bytes (log_field_bytes v) e (omega arith) (little_number-reads_back 2 v.bblog_size (little_bytes 4 bits) fit.bblog_size),
      sym (to_z-of_z w32 v.bblog_offset fit.bblog_offset)
          ∙ ap (cast_signed w32) (field 4 184 8 4 bits bytes (log_field_bytes v) e (omega arith) (little_number-reads_back 4 bits [] (bits_fit v.bblog_offset fit.bblog_offset))),
    )

number_read : (i x : ℕ) (bytes : List ℕ) → x < 2 ^ 32 → bytes_at 4 i bytes ≡ little_bytes 4 x → x ≡ number_at 4 (i + 0) bytes
unfolding number_at
number_read i x bytes fit e = field 4 i 4 0 x bytes (little_bytes 4 x) e (omega arith) (little_number-reads_back 4 x [] fit)

module _ (total : ℕ) (v : Superblock) (fit : FrontFits v) where
  part : (k : ℕ) → k < 15 → bytes_at (get_or (lengths (length v.roles)) k 0) (sum (take k (lengths (length v.roles)))) (bytes_with total v) ≡ get_or (parts total v) k []
  part k h = rw (in_parts total v) (part_at (parts total v) (lengths (length v.roles)) k (lengths_of total v fit.texts) h)

  -- the superblock reads back
  pub reads_back : RolesFit v.roles → length v.roles ≤ 1920 → total < 2 ^ 32 → IsSuper (bytes_with total v) (record v { sb_csum = total })
  reads_back roles_fit few total_fits =
      let bytes = bytes_with total v in
      let head = head_read v bytes fit.feature_map (part 0 (omega arith)) in
      let shape = shape_read v bytes fit.shape (part 3 (omega arith)) in
      let reshape = reshape_read v bytes fit.reshape (part 5 (omega arith)) in
      let places = places_read v bytes fit.places (part 6 (omega arith)) in
      let log = log_read v bytes fit.log (part 8 (omega arith)) in
      let counts = counts_read v bytes fit.counts (part 9 (omega arith)) in
      let max_dev = number_read 220 (length v.roles) bytes (omega (arith, few)) (part 11 (omega arith)) in
      record {
        magic = sym head.0;
        major_version = sym head.1;
        feature_map = head.2;
        set_uuid = sym (part 1 (omega arith));
        set_name = sym (part 2 (omega arith));
        ctime = shape.0;
        level = shape.1;
        layout = shape.2;
        size = shape.3;
        chunksize = shape.4;
        raid_disks = shape.5;
        bitmap_offset = bitmap_read v bytes fit.bitmap_offset (part 4 (omega arith));
        new_level = reshape.0;
        reshape_position = reshape.1;
        delta_disks = reshape.2;
        new_layout = reshape.3;
        new_chunk = reshape.4;
        new_offset = reshape.5;
        data_offset = places.0;
        data_size = places.1;
        super_offset = places.2;
        recovery_offset = places.3;
        dev_number = places.4;
        cnt_corrected_read = places.5;
        device_uuid = sym (part 7 (omega arith));
        devflags = log.0;
        bblog_shift = log.1;
        bblog_size = log.2;
        bblog_offset = log.3;
        utime = counts.0;
        events = counts.1;
        resync_offset = counts.2;
        sb_csum = number_read 216 total bytes total_fits (part 10 (omega arith));
        roles = sym (rw (← max_dev) (roles_read_back v.roles bytes roles_fit (part 13 (omega arith))));
      }
