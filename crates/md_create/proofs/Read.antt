-- What is read of a device on which a member was laid out.
use Rattle.std.proofs.Common.{◌≡◌, ℕ, ◌+◌, ◌-◌, ◌*◌, ◌/◌, ◌%◌, ◌<◌, true, false, List, [], ◌++◌, length, drop, slice_index, Option, Some, None, IfSome, refl, ap, sym, subst, ◌∙◌, arith, inl, inr}
use Rattle.std.specs.Prelude.{pos, ◌+ℤ◌, not, bit_and, ◌==◌, ◌&&◌}
use Rattle.std.proofs.Math.Bool.{Bool-set}
use Rattle.std.proofs.Math.Bridge.{le_prop}
use mathlib.Core.HLevel.{is_prop→PathP}
use Rattle.std.proofs.lemmas.List.{get_or-drop, take_at}
use Rattle.md_device.specs.Splice.{part}
use Rattle.md_device.specs.Device.{held}
use Rattle.md_device.proofs.Splices.{slice_index-part}
use Rattle.md_format.specs.Fields.{bytes_at}
use Rattle.md_super.specs.declared.superblock.Superblock.{Superblock}
use Rattle.md_super.specs.Log.{has_bad_block_log}
use Rattle.md_super.specs.Encoding.{super_bytes}
use Rattle.md_super.specs.Format.{IsSuper}
use Rattle.md_super.proofs.Unique.{unique}
use Rattle.md_bitmap.specs.declared.header.BitmapHeader.{BitmapHeader}
use Rattle.md_bitmap.specs.Header.{IsHeader, header_bytes}
use Rattle.md_bitmap.specs.Marks.{Bitmap, is_set, padded}
use Rattle.md_bitmap.specs.Sound.{IsSoundHeader, chunk_count}
use Rattle.md_bitmap.specs.Sectors.{bitmap_sector}
use Rattle.md_bitmap.proofs.Blocks.{from_start, sector_bit}
use Rattle.md_badblocks.specs.declared.run.Run.{Run}
use Rattle.md_members.specs.declared.info.MemberInfo.{MemberInfo}
use Rattle.md_members.specs.Areas.{bitmap_sectors, has_bitmap}
use Rattle.md_members.specs.Members.{IsReadMember, HasBitmap, HasBadSet, reads_log, sectors_of_device as sectors_in}
use Rattle.md_members.specs.Reading.{BitmapStartsAt, IsRead, ReadsSuper, ReadsBitmap, ReadsHeader, chunks_of, front_of}
use Rattle.md_create.specs.declared.params.NewMember.{NewMember}
use Rattle.md_create.specs.Layout.{IsLaidOutAs}
use Rattle.md_create.specs.ReadBack.{HasSameMarks, ReadsBack, sealed}

IsSound-prop : (size chunksize : ℕ) → IsProp (IsSoundHeader size chunksize)
IsSound-prop size chunksize a b = λ i. record {
  chunk_size = record { power = Bool-set _ _ a.chunk_size.power b.chunk_size.power i; least = le_prop a.chunk_size.least b.chunk_size.least i };
  few_chunks = le_prop a.few_chunks b.few_chunks i;
}

-- a header is determined by its bytes
one_header : (bytes : List ℕ) (v w : BitmapHeader) → IsHeader bytes v → IsHeader bytes w → v ≡ w
one_header bytes v w a b = λ i. record {
  uuid = (a.uuid ∙ sym b.uuid) i;
  events = (a.events ∙ sym b.events) i;
  events_cleared = (a.events_cleared ∙ sym b.events_cleared) i;
  sync_size = (a.sync_size ∙ sym b.sync_size) i;
  state = (a.state ∙ sym b.state) i;
  chunksize = (a.chunksize ∙ sym b.chunksize) i;
  daemon_sleep = (a.daemon_sleep ∙ sym b.daemon_sleep) i;
  write_behind = (a.write_behind ∙ sym b.write_behind) i;
  sectors_reserved = (a.sectors_reserved ∙ sym b.sectors_reserved) i;
  nodes = (a.nodes ∙ sym b.nodes) i;
  cluster_name = (a.cluster_name ∙ sym b.cluster_name) i;
  sound = is_prop→PathP (λ j. IsSoundHeader ((a.sync_size ∙ sym b.sync_size) j) ((a.chunksize ∙ sym b.chunksize) j)) (λ j. IsSound-prop _ _) v.sound w.sound i;
}

same_bit : (xs ys : List ℕ) (i j : ℕ) → i % 8 ≡ j % 8 → slice_index xs (i / 8) ≡ slice_index ys (j / 8) → is_set xs i ≡ is_set ys j
unfolding is_set
same_bit xs ys i j place byte = rw (place, byte) refl

-- the sector that has a chunk's bit
sector_has : (chunks c : ℕ) → c < chunks → (c + 2048) / 4096 < bitmap_sectors chunks
sector_has chunks c below = omega arith

-- the bits after the header of an area of n sectors
module _ (h : BitmapHeader) (m : Bitmap) (new area : List ℕ) (long : length (header_bytes h) ≡ 256)
    (read : area ≡ part new (512 * 16) (512 * bitmap_sectors m.chunks))
    (each : (i : ℕ) → i < bitmap_sectors m.chunks → part new (512 * (16 + i)) 512 ≡ bitmap_sector h m i) where
  bit_read : (c : ℕ) → c < m.chunks → is_set (drop 256 area) c ≡ is_set m.bytes c
  bit_read c below =
      let i = (c + 2048) / 4096 in
      let j = (c + 2048) % 4096 in
      let within : i < bitmap_sectors m.chunks = sector_has m.chunks c below in
      let same : 4096 * i + j - 2048 ≡ c = omega arith in
      let place : c % 8 ≡ j % 8 = omega arith in
      let here : 512 * 16 + (256 + c / 8) ≡ 512 * (16 + i) + j / 8 = omega arith in
      let byte = get_or-drop 256 area (c / 8) 0
      ∙ ap (λ xs. slice_index xs (256 + c / 8)) read
      ∙ slice_index-part new (512 * 16) (512 * bitmap_sectors m.chunks) (256 + c / 8) (omega arith)
      ∙ ap (slice_index new) here
      ∙ sym (slice_index-part new (512 * (16 + i)) 512 (j / 8) (omega arith)) in
      same_bit (drop 256 area) (part new (512 * (16 + i)) 512) c j place byte
      ∙ ap (λ xs. is_set xs j) (each i within)
      ∙ sector_bit h m i j long (omega arith) (omega arith)
      ∙ ap (is_set m.bytes) same

front_is : (front rest : List ℕ) → length front ≡ 256 → bytes_at 256 0 (front ++ rest) ≡ front
unfolding bytes_at
front_is front rest long = take_at front rest 256 long

-- a superblock v that was read of the device
module _ (member : NewMember) (old new : List ℕ) (spelled : IsSuper (super_bytes member.superblock) (sealed member.superblock))
    (header_is : IsHeader (header_bytes member.header) member.header) (long : length (header_bytes member.header) ≡ 256)
    (laid : IsLaidOutAs old member new) (v : Superblock) (read : ReadsSuper new true v) where
  pub super_read : v ≡ sealed member.superblock
  super_read =
      unique (super_bytes member.superblock) v (sealed member.superblock)
      (subst (λ (bytes : List ℕ). IsSuper bytes v) (read.read.from_device refl ∙ laid.superblock) read.fields) spelled

  feature_read : v.feature_map ≡ 1
  feature_read = ap (λ (w : Superblock). w.feature_map) super_read ∙ member.new.places.feature_map

  offset_read : v.bitmap_offset ≡ pos 8
  offset_read = ap (λ (w : Superblock). w.bitmap_offset) super_read ∙ member.new.places.bitmap_offset

  starts_at : (start : ℕ) → BitmapStartsAt v start → start ≡ 16
  starts_at start at =
      let sum : pos start ≡ pos 16 = at ∙ ap (λ offset. pos 8 +ℤ offset) offset_read in
      cc

  pub front_read : (start : ℕ) (sector : List ℕ) → BitmapStartsAt v start → IsRead new true start 512 sector → front_of sector ≡ header_bytes member.header
  front_read start sector at is =
      let first = laid.bitmap 0 (omega arith) in
      let whole : sector ≡ header_bytes member.header ++ padded 256 member.marks.bytes =
      is.from_device refl ∙ ap (λ k. held new k 512) (starts_at start at) ∙ first
      ∙ sym (from_start member.header member.marks 512 long (omega arith)) in
      ap (bytes_at 256 0) whole ∙ front_is (header_bytes member.header) (padded 256 member.marks.bytes) long

  pub header_read : (h : BitmapHeader) → ReadsHeader new true v h → h ≡ member.header
  header_read h reads =
      one_header (header_bytes member.header) h member.header (subst (λ (bytes : List ℕ). IsHeader bytes h) (front_read reads.start reads.sector reads.at reads.read) reads.fields) header_is

  pub chunks_read : (h : BitmapHeader) → h ≡ member.header → chunks_of v h ≡ member.marks.chunks
  chunks_read h same =
      ap (λ (w : Superblock). chunk_count w.size h.chunksize) super_read ∙ ap (λ (k : BitmapHeader). chunk_count member.superblock.size k.chunksize) same
      ∙ ap (λ size. chunk_count size member.header.chunksize) (sym member.new.sync_size) ∙ sym member.new.chunks

  marks_read : (h : BitmapHeader) (m : Bitmap) → ReadsBitmap new true (sectors_in new) v h m → h ≡ member.header → HasSameMarks member.marks m
  marks_read h m reads same =
      let chunks = chunks_read h same in
      let area : reads.marks.area ≡ part new (512 * 16) (512 * bitmap_sectors member.marks.chunks) =
      reads.marks.read.from_device refl ∙ ap (λ start. held new start (512 * bitmap_sectors (chunks_of v h))) (starts_at reads.start reads.at)
      ∙ ap (λ n. held new 16 (512 * bitmap_sectors n)) chunks in
      record {
        chunks = reads.marks.chunks_are ∙ chunks;
        bits = λ c below. ap (λ bytes. is_set bytes c) reads.marks.bits ∙ bit_read member.header member.marks new reads.marks.area long area laid.bitmap c below;
      }

  bitmap_read : (h : Option BitmapHeader) (m : Option Bitmap) → HasBitmap new true v h m → (h ≡ Some member.header) × IfSome m (HasSameMarks member.marks)
  bitmap_read (Some h) (Some m) has =
      let same = header_read h has.1.header in
      (ap Some same, marks_read h m has.1 same)
  bitmap_read None None has =
      let there : has_bitmap v ≡ true = ap (λ map. not (bit_and map 1 == 0)) feature_read in
      absurd cc
  bitmap_read (Some h) None has = absurd has
  bitmap_read None (Some m) has = absurd has

  pub no_log : reads_log v ≡ false
  no_log = ap (λ map. not (bit_and map 8 == 0) && has_bad_block_log v) feature_read

  bad_read : (bad : List Run) → HasBadSet new true v bad → bad ≡ []
  bad_read bad (inl listed) = let log = listed.0 in let none = no_log in absurd cc
  bad_read bad (inr none) = none.1

-- the whole member
pub read_back : (member : NewMember) (old new : List ℕ) (info : MemberInfo) → IsSuper (super_bytes member.superblock) (sealed member.superblock) → IsHeader (header_bytes member.header) member.header → length (header_bytes member.header) ≡ 256 → IsLaidOutAs old member new → IsReadMember new true info → ReadsBack member info
read_back member old new info spelled header_is long laid is =
    let bitmap = bitmap_read member old new spelled header_is long laid info.superblock is.superblock info.header info.marks is.bitmap in
    record {
      superblock = super_read member old new spelled header_is long laid info.superblock is.superblock;
      header = bitmap.0;
      marks = bitmap.1;
      bad = bad_read member old new spelled header_is long laid info.superblock is.superblock info.bad is.bad;
    }
