-- A member is read back as it was, with the bitmap.
use Rattle.std.proofs.Common.{◌≡◌, ℕ, ◌+◌, ◌-◌, ◌*◌, ◌/◌, ◌%◌, ◌<◌, ◌≤◌, ◌↔◌, true, List, ◌++◌, length, drop, slice_index, Option, Some, None, IfSome, refl, ap, sym, subst, ◌∙◌, arith, inl, inr}
use Rattle.std.specs.Prelude.{pos, ◌+ℤ◌, not, ◌==◌, ◌&&◌, slice_get}
use Rattle.std.proofs.Math.Bool.{Bool-set}
use Rattle.std.proofs.Math.Bridge.{le_prop}
use mathlib.Core.HLevel.{is_prop→PathP}
use Rattle.std.proofs.lemmas.Bool.{and_parts}
use Rattle.std.proofs.lemmas.List.{get_or-drop, take_at}
use Rattle.std.proofs.lemmas.Nat.{and_or_apart, and_or_self}
use Rattle.md_device.specs.Splice.{part}
use Rattle.md_device.specs.Device.{held}
use Rattle.md_device.proofs.Splices.{slice_index-part}
use Rattle.md_format.specs.Fields.{bytes_at}
use Rattle.md_super.specs.declared.superblock.Superblock.{Superblock}
use Rattle.md_super.specs.Log.{has_bad_block_log}
use Rattle.md_super.specs.Encoding.{super_bytes}
use Rattle.md_super.specs.Format.{IsSuper}
use Rattle.md_super.specs.Merge.{merged}
use Rattle.md_super.proofs.Unique.{unique}
use Rattle.md_bitmap.specs.declared.header.BitmapHeader.{BitmapHeader}
use Rattle.md_bitmap.specs.Header.{IsHeader, header_bytes}
use Rattle.md_bitmap.specs.Marks.{Bitmap, is_set, padded}
use Rattle.md_bitmap.specs.Sound.{IsSoundHeader, chunk_count}
use Rattle.md_bitmap.specs.Sectors.{bitmap_sector, bitmap_sectors}
use Rattle.md_bitmap.proofs.Blocks.{from_start, sector_bit}
use Rattle.md_badblocks.specs.declared.run.Run.{Run}
use Rattle.md_badblocks.specs.Log.{IsReadAs}
use Rattle.md_badblocks.specs.Runs.{IsBad}
use Rattle.md_members.specs.declared.info.MemberInfo.{MemberInfo}
use Rattle.md_members.specs.Areas.{has_bitmap, log_area}
use Rattle.md_members.specs.Members.{IsReadMember, HasBitmap, HasBadSet, reads_log, sectors_of_device as sectors_in}
use Rattle.md_members.specs.Reading.{BitmapStartsAt, IsRead, LogStartsAt, ReadsBitmap, ReadsHeader, chunks_of, front_of}
use Rattle.md_kept_members.specs.OnDevices.Superblocks.{IsReadable}
use Rattle.md_kept_members.proofs.OnDeviceLemmas.Beside.{apart}
use Rattle.md_create.specs.ReadBack.{HasSameMarks}
use Rattle.md_metadata.specs.declared.bitmap_grow.growth.Growth.{Growth}
use Rattle.md_metadata.specs.Grow.AsItWas.{KeepsMemberData, ReadsGrown, own_of}
use Rattle.md_metadata.specs.Grow.Growth.{IsGrowth}
use Rattle.md_metadata.specs.Grow.Places.{HasRoomAt, reserved_for}
use Rattle.md_metadata.specs.Grow.Stored.{IsStored, KeepsAllBeside, sectors_of}
use Rattle.md_metadata.proofs.GrowLemmas.Room.{after_super, first_size, reserved_holds}

IsSound-prop : (size chunksize : ℕ) → IsProp (IsSoundHeader size chunksize)
IsSound-prop size chunksize a b = λ i. record {
  chunk_size = record { power = Bool-set _ _ a.chunk_size.power b.chunk_size.power i; least = le_prop a.chunk_size.least b.chunk_size.least i };
  few_chunks = le_prop a.few_chunks b.few_chunks i;
}

-- a header is determined by its bytes
one_header : (bytes : List ℕ) (v w : BitmapHeader) → IsHeader bytes v → IsHeader bytes w → v ≡ w
one_header bytes v w a b = λ i. record {
  uuid = (a.uuid ∙ sym b.uuid) i;
  events = (a.events ∙ sym b.events) i;
  events_cleared = (a.events_cleared ∙ sym b.events_cleared) i;
  sync_size = (a.sync_size ∙ sym b.sync_size) i;
  state = (a.state ∙ sym b.state) i;
  chunksize = (a.chunksize ∙ sym b.chunksize) i;
  daemon_sleep = (a.daemon_sleep ∙ sym b.daemon_sleep) i;
  write_behind = (a.write_behind ∙ sym b.write_behind) i;
  sectors_reserved = (a.sectors_reserved ∙ sym b.sectors_reserved) i;
  nodes = (a.nodes ∙ sym b.nodes) i;
  cluster_name = (a.cluster_name ∙ sym b.cluster_name) i;
  sound = is_prop→PathP (λ j. IsSoundHeader ((a.sync_size ∙ sym b.sync_size) j) ((a.chunksize ∙ sym b.chunksize) j)) (λ j. IsSound-prop _ _) v.sound w.sound i;
}

same_bit : (xs ys : List ℕ) (i j : ℕ) → i % 8 ≡ j % 8 → slice_index xs (i / 8) ≡ slice_index ys (j / 8) → is_set xs i ≡ is_set ys j
unfolding is_set
same_bit xs ys i j place byte = rw (place, byte) refl

-- the sector that has a chunk's bit
sector_has : (chunks c : ℕ) → c < chunks → (c + 2048) / 4096 < bitmap_sectors chunks
sector_has chunks c below = omega arith

-- the bits after the header of an area of n sectors
module _ (start : ℕ) (h : BitmapHeader) (m : Bitmap) (new area : List ℕ) (long : length (header_bytes h) ≡ 256)
    (read : area ≡ part new (512 * start) (512 * bitmap_sectors m.chunks))
    (each : (i : ℕ) → i < bitmap_sectors m.chunks → part new (512 * (start + i)) 512 ≡ bitmap_sector h m i) where
  bit_read : (c : ℕ) → c < m.chunks → is_set (drop 256 area) c ≡ is_set m.bytes c
  bit_read c below =
      let i = (c + 2048) / 4096 in
      let j = (c + 2048) % 4096 in
      let within : i < bitmap_sectors m.chunks = sector_has m.chunks c below in
      let same : 4096 * i + j - 2048 ≡ c = omega arith in
      let place : c % 8 ≡ j % 8 = omega arith in
      let here : 512 * start + (256 + c / 8) ≡ 512 * (start + i) + j / 8 = omega arith in
      let byte = get_or-drop 256 area (c / 8) 0
      ∙ ap (λ xs. slice_index xs (256 + c / 8)) read
      ∙ slice_index-part new (512 * start) (512 * bitmap_sectors m.chunks) (256 + c / 8) (omega arith)
      ∙ ap (slice_index new) here
      ∙ sym (slice_index-part new (512 * (start + i)) 512 (j / 8) (omega arith)) in
      same_bit (drop 256 area) (part new (512 * (start + i)) 512) c j place byte
      ∙ ap (λ xs. is_set xs j) (each i within)
      ∙ sector_bit h m i j long (omega arith) (omega arith)
      ∙ ap (is_set m.bytes) same

front_is : (front rest : List ℕ) → length front ≡ 256 → bytes_at 256 0 (front ++ rest) ≡ front
unfolding bytes_at
front_is front rest long = take_at front rest 256 long

-- ---- what the members have in common
module _ (infos : List MemberInfo) (chunk_bytes : ℕ) (g : Growth) (growth : IsGrowth infos chunk_bytes g) (k : ℕ) (was : MemberInfo) (at : slice_get infos k ≡ Some was) where
  pub room_of : HasRoomAt g.start (reserved_for growth.chunks) was.superblock
  room_of = growth.place.room k was at

  pub late : 16 ≤ g.start
  late = after_super (reserved_for growth.chunks) infos g.start growth.place

  pub holds : sectors_of g ≤ reserved_for growth.chunks
  holds = subst (λ (n : ℕ). bitmap_sectors n ≤ reserved_for growth.chunks) (sym growth.made.marks.chunks_are) (reserved_holds growth.chunks)

  chunks_are : chunk_count g.shared.size g.header.chunksize ≡ g.marks.chunks
  chunks_are =
      let size : growth.freshest.size ≡ growth.has_chunks.first.superblock.size =
      first_size infos chunk_bytes growth.chunks growth.has_chunks g.members.items growth.first_header g.start growth.are growth.array.array.sound growth.index growth.freshest growth.array.array.freshest.listed in
      ap (λ (v : Superblock). chunk_count v.size g.header.chunksize) growth.made.shared_is
      ∙ ap (λ n. chunk_count n g.header.chunksize) size
      ∙ ap (chunk_count growth.has_chunks.first.superblock.size) growth.made.header.chunksize
      ∙ sym growth.has_chunks.count ∙ sym growth.made.marks.chunks_are

  pub data_kept : (old new : List ℕ) → KeepsAllBeside g.start (sectors_of g) old new → KeepsMemberData was old new
  data_kept old new kept i n from to =
      kept.others i n (inr (omega (arith, room_of.before_data, late))) (inr (omega (arith, room_of.before_data, holds)))

  -- ---- what is read of an honest device on which it was stored
  module _ (old new : List ℕ) (read : MemberInfo) (header_is : IsHeader (header_bytes g.header) g.header) (long : length (header_bytes g.header) ≡ 256)
      (was_read : IsReadMember old true was) (readable : IsReadable (merged g.shared (own_of g was))) (stored : IsStored g (own_of g was) old new)
      (now_read : IsReadMember new true read) where
    abbrev v : Superblock
    v = read.superblock

    abbrev meant : Superblock
    meant = record (merged g.shared (own_of g was)) { sb_csum = readable.sum }

    super_read : v ≡ meant
    super_read =
        unique (super_bytes (merged g.shared (own_of g was))) v meant
        (subst (λ (bytes : List ℕ). IsSuper bytes v) (now_read.superblock.read.from_device refl ∙ stored.superblock) now_read.superblock.fields) readable.fields

    starts_at : (start : ℕ) → BitmapStartsAt v start → start ≡ g.start
    starts_at start from =
        let sum : pos start ≡ pos (8 + (g.start - 8)) = from ∙ ap (λ (w : Superblock). pos 8 +ℤ w.bitmap_offset) super_read in
        let same : start ≡ 8 + (g.start - 8) = cc in
        omega (arith, same, late)

    some : 0 < sectors_of g
    some = omega arith

    front_read : (start : ℕ) (sector : List ℕ) → BitmapStartsAt v start → IsRead new true start 512 sector → front_of sector ≡ header_bytes g.header
    front_read start sector from is =
        let place : start ≡ g.start + 0 = omega (arith, starts_at start from) in
        let whole : sector ≡ header_bytes g.header ++ padded 256 g.marks.bytes =
        is.from_device refl ∙ ap (λ s. held new s 512) place ∙ stored.bitmap 0 some
        ∙ sym (from_start g.header g.marks 512 long (omega arith)) in
        ap (bytes_at 256 0) whole ∙ front_is (header_bytes g.header) (padded 256 g.marks.bytes) long

    header_read : (h : BitmapHeader) → ReadsHeader new true v h → h ≡ g.header
    header_read h reads =
        one_header (header_bytes g.header) h g.header (subst (λ (bytes : List ℕ). IsHeader bytes h) (front_read reads.start reads.sector reads.at reads.read) reads.fields) header_is

    chunks_read : (h : BitmapHeader) → h ≡ g.header → chunks_of v h ≡ g.marks.chunks
    chunks_read h same =
        ap (λ (w : Superblock). chunk_count w.size h.chunksize) super_read ∙ ap (λ (h : BitmapHeader). chunk_count g.shared.size h.chunksize) same ∙ chunks_are

    marks_read : (h : BitmapHeader) (m : Bitmap) → ReadsBitmap new true (sectors_in new) v h m → h ≡ g.header → HasSameMarks g.marks m
    marks_read h m reads same =
        let chunks = chunks_read h same in
        let area : reads.marks.area ≡ part new (512 * g.start) (512 * bitmap_sectors g.marks.chunks) =
        reads.marks.read.from_device refl ∙ ap (λ s. held new s (512 * bitmap_sectors (chunks_of v h))) (starts_at reads.start reads.at)
        ∙ ap (λ n. held new g.start (512 * bitmap_sectors n)) chunks in
        record {
          chunks = reads.marks.chunks_are ∙ chunks;
          bits = λ c below. ap (λ bytes. is_set bytes c) reads.marks.bits ∙ bit_read g.start g.header g.marks new reads.marks.area long area stored.bitmap c below;
        }

    there : has_bitmap v ≡ true
    there = ap has_bitmap super_read ∙ ap (λ n. not (n == 0)) (and_or_self 1 was.superblock.feature_map)

    bitmap_read : (h : Option BitmapHeader) (m : Option Bitmap) → HasBitmap new true v h m → (h ≡ Some g.header) × IfSome m (HasSameMarks g.marks)
    bitmap_read (Some h) (Some m) has =
        let same = header_read h has.1.header in
        (ap Some same, marks_read h m has.1 same)
    bitmap_read None None has = let is = there in absurd cc
    bitmap_read (Some h) None has = absurd has
    bitmap_read None (Some m) has = absurd has

    -- ---- the log
    log_same : reads_log v ≡ reads_log was.superblock
    log_same = ap reads_log super_read ∙ ap (λ n. not (n == 0) && has_bad_block_log was.superblock) (and_or_apart 8 was.superblock.feature_map 1 refl)

    log_kept : (s : ℕ) → LogStartsAt was.superblock s → has_bad_block_log was.superblock ≡ true
        → part new (512 * s) (512 * was.superblock.bblog_size) ≡ part old (512 * s) (512 * was.superblock.bblog_size)
    log_kept s starts has =
        let size = was.superblock.bblog_size in
        let log = was_read.placed.log has in
        let reserved = reserved_for growth.chunks in
        let near = apart (pos 8) (log_area was.superblock).start 8 s 8 size refl (sym starts) log.from_super in
        let far = apart (log_area was.superblock).start (pos g.start) s g.start size reserved (sym starts) refl (room_of.beside_log has) in
        stored.kept.others (512 * s) (512 * size)
        (elim near [ inl behind ↦ inr (omega arith) | inr before ↦ inl (omega arith) ])
        (elim far [ inl before ↦ inl (omega arith) | inr behind ↦ inr (omega (arith, holds)) ])

    listed_same : (read_bad was_bad : List Run) → HasBadSet new true v read_bad → HasBadSet old true was.superblock was_bad → (sector : ℕ) → IsBad read_bad sector ↔ IsBad was_bad sector
    listed_same read_bad was_bad (inl now) (inl then) sector =
        let has : has_bad_block_log was.superblock ≡ true = (and_parts _ _ then.0).1 in
        let n = now.1 in
        let o = then.1 in
        let starts : pos n.start ≡ pos o.start = n.at ∙ ap (λ (w : Superblock). pos 8 +ℤ w.bblog_offset) super_read ∙ sym o.at in
        let place : n.start ≡ o.start = cc in
        let area : n.area ≡ o.area =
        n.read.from_device refl ∙ ap (λ s. held new s (512 * v.bblog_size)) place
        ∙ ap (λ (w : Superblock). held new o.start (512 * w.bblog_size)) super_read ∙ log_kept o.start o.at has ∙ sym (o.read.from_device refl) in
        let set : IsReadAs was.superblock.bblog_shift o.area read_bad =
        subst (λ (bytes : List ℕ). IsReadAs was.superblock.bblog_shift bytes read_bad) area
        (subst (λ (w : Superblock). IsReadAs w.bblog_shift n.area read_bad) super_read n.set) in
        ((λ bad. (o.set.named sector).1 ((set.named sector).0 bad)), (λ bad. (set.named sector).1 ((o.set.named sector).0 bad)))
    listed_same read_bad was_bad (inl now) (inr then) sector = let a = now.0 in let b = then.0 in let same = log_same in absurd cc
    listed_same read_bad was_bad (inr now) (inl then) sector = let a = now.0 in let b = then.0 in let same = log_same in absurd cc
    listed_same read_bad was_bad (inr now) (inr then) sector =
        let same : read_bad ≡ was_bad = now.1 ∙ sym then.1 in
        ((λ bad. subst (λ (runs : List Run). IsBad runs sector) same bad), (λ bad. subst (λ (runs : List Run). IsBad runs sector) (sym same) bad))

    pub read_back : ReadsGrown g was read
    read_back =
        let bitmap = bitmap_read read.header read.marks now_read.bitmap in
        record {
          sectors = omega (arith, now_read.size, was_read.size, stored.kept.size);
          sum = readable.sum;
          superblock = super_read;
          header = bitmap.0;
          marks = bitmap.1;
          bad = listed_same read.bad was.bad now_read.bad was_read.bad;
        }
