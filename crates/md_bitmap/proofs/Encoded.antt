-- What is read at the places of a header's bytes.
use Rattle.std.proofs.Common.{◌≡◌, ℕ, ◌+◌, ◌<◌, List, [], ◌∷◌, ◌++◌, length, map, sum, take, get_or, replicate, refl, sym, ◌∙◌, append_assoc, arith}
use Rattle.std.proofs.Math.Seq.{take-length}
use Rattle.std.specs.List.{concat}
use Rattle.std.proofs.lemmas.List.{append-nil, length-append}
use Rattle.byteorder.specs.Numbers.{little_number-reads_back}
use Rattle.md_format.specs.Fields.{number_at, bytes_at}
use Rattle.md_format.proofs.Parts.{field, part_at}
use Rattle.md_bitmap.specs.Header.{IsHeader, CountsFit, SettingsFit, format_bytes, count_bytes, setting_bytes, header_bytes}
use Rattle.md_bitmap.specs.declared.header.BitmapHeader.{BitmapHeader}

-- fields after a front, one by one and as a group
pub regroup_3 : (p a b c : List ℕ) → ((p ++ a) ++ b) ++ c ≡ p ++ ((a ++ b) ++ c)
regroup_3 p a b c = simp append_assoc

pub length-format_bytes : length format_bytes ≡ 8
unfolding format_bytes
length-format_bytes = refl

pub take_whole : (n : ℕ) (xs : List ℕ) → length xs ≡ n → take n xs ≡ xs
take_whole n xs e = rw (← e) (take-length xs)

-- the parts of the bytes, and their lengths
abbrev parts : BitmapHeader → List (List ℕ)
parts v = format_bytes ∷ v.uuid ∷ count_bytes v ∷ setting_bytes v ∷ v.cluster_name ∷ replicate 120 0 ∷ []

abbrev lengths : List ℕ
lengths = 8 ∷ 16 ∷ 24 ∷ 24 ∷ 64 ∷ 120 ∷ []

regroup : (a b c d e z : List ℕ) → a ++ b ++ c ++ d ++ e ++ z ≡ concat (a ∷ b ∷ c ∷ d ∷ e ∷ z ∷ [])
regroup a b c d e z = simp (append_assoc, append-nil)

length-six : (a b c d e z : List ℕ) → length (a ++ b ++ c ++ d ++ e ++ z) ≡ length a + length b + length c + length d + length e + length z
length-six a b c d e z = simp length-append

in_parts : (v : BitmapHeader) → header_bytes v ≡ concat (parts v)
unfolding header_bytes
in_parts v = regroup format_bytes v.uuid (count_bytes v) (setting_bytes v) v.cluster_name (replicate 120 0)

-- the fields of each group
counts_read : (v : BitmapHeader) (bytes : List ℕ) → CountsFit v → bytes_at 24 24 bytes ≡ count_bytes v →
    (v.events ≡ number_at 8 24 bytes) × (v.events_cleared ≡ number_at 8 32 bytes) × (v.sync_size ≡ number_at 8 40 bytes)
unfolding number_at count_bytes
counts_read v bytes fit e = (
  field 8 24 24 0 v.events bytes (count_bytes v) e (omega arith) (little_number-reads_back 8 v.events [] fit.events),
  field 8 24 24 8 v.events_cleared bytes (count_bytes v) e (omega arith) (little_number-reads_back 8 v.events_cleared [] fit.events_cleared),
  field 8 24 24 16 v.sync_size bytes (count_bytes v) e (omega arith) (little_number-reads_back 8 v.sync_size [] fit.sync_size),
)

settings_read : (v : BitmapHeader) (bytes : List ℕ) → SettingsFit v → bytes_at 24 48 bytes ≡ setting_bytes v →
    (v.state ≡ number_at 4 48 bytes) × (v.chunksize ≡ number_at 4 52 bytes) × (v.daemon_sleep ≡ number_at 4 56 bytes) × (v.write_behind ≡ number_at 4 60 bytes) × (v.sectors_reserved ≡ number_at 4 64 bytes) × (v.nodes ≡ number_at 4 68 bytes)
unfolding number_at setting_bytes
settings_read v bytes fit e = (
  field 4 48 24 0 v.state bytes (setting_bytes v) e (omega arith) (little_number-reads_back 4 v.state [] fit.state),
  field 4 48 24 4 v.chunksize bytes (setting_bytes v) e (omega arith) (little_number-reads_back 4 v.chunksize [] fit.chunksize),
  field 4 48 24 8 v.daemon_sleep bytes (setting_bytes v) e (omega arith) (little_number-reads_back 4 v.daemon_sleep [] fit.daemon_sleep),
  field 4 48 24 12 v.write_behind bytes (setting_bytes v) e (omega arith) (little_number-reads_back 4 v.write_behind [] fit.write_behind),
  field 4 48 24 16 v.sectors_reserved bytes (setting_bytes v) e (omega arith) (little_number-reads_back 4 v.sectors_reserved [] fit.sectors_reserved),
  field 4 48 24 20 v.nodes bytes (setting_bytes v) e (omega arith) (little_number-reads_back 4 v.nodes [] fit.nodes),
)

format_read : (bytes : List ℕ) → bytes_at 8 0 bytes ≡ format_bytes → (0x6d746962 ≡ number_at 4 0 bytes) × (4 ≡ number_at 4 4 bytes)
unfolding number_at format_bytes
format_read bytes e = (
  field 4 0 8 0 0x6d746962 bytes format_bytes e (omega arith) refl,
  field 4 0 8 4 4 bytes format_bytes e (omega arith) refl,
)

module _ (v : BitmapHeader) (uuid_long : length v.uuid ≡ 16) (name_long : length v.cluster_name ≡ 64) where
  lengths_of : map length (parts v) ≡ lengths
  unfolding format_bytes count_bytes setting_bytes
  lengths_of = rw (uuid_long, name_long) refl

  pub length-header_bytes : length (header_bytes v) ≡ 256
  unfolding header_bytes format_bytes count_bytes setting_bytes
  length-header_bytes = length-six format_bytes v.uuid (count_bytes v) (setting_bytes v) v.cluster_name (replicate 120 0) ∙ rw (uuid_long, name_long) refl

  part : (k : ℕ) → k < 6 → bytes_at (get_or lengths k 0) (sum (take k lengths)) (header_bytes v) ≡ get_or (parts v) k []
  part k h = rw (in_parts v) (part_at (parts v) lengths k lengths_of h)

  -- the header reads back
  pub reads_back : CountsFit v → SettingsFit v → IsHeader (header_bytes v) v
  reads_back counts_fit settings_fit =
      let bytes = header_bytes v in
      let format = format_read bytes (part 0 (omega arith)) in
      let counts = counts_read v bytes counts_fit (part 2 (omega arith)) in
      let settings = settings_read v bytes settings_fit (part 3 (omega arith)) in
      record {
        magic = sym format.0;
        version = sym format.1;
        uuid = sym (part 1 (omega arith));
        events = counts.0;
        events_cleared = counts.1;
        sync_size = counts.2;
        state = settings.0;
        chunksize = settings.1;
        daemon_sleep = settings.2;
        write_behind = settings.3;
        sectors_reserved = settings.4;
        nodes = settings.5;
        cluster_name = sym (part 4 (omega arith));
      }
