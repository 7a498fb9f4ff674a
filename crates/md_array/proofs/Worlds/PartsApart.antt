-- The parts of a member stand apart on its device: a write to one of them leaves the others as they were.
use Rattle.std.proofs.Common.{◌≡◌, ◌≢◌, ℕ, ◌+◌, ◌*◌, ◌/◌, ◌<◌, ◌≤◌, ◌⊎◌, inl, inr, Bool, true, false, cond, ◌&&◌, nat_lt, List, [], drop, slice_get, Some, pos, refl, sym, ap, ◌∙◌, subst, arith, get_or-drop, ◌^◌}
use Rattle.std.specs.Int.{div_ceil}
use Rattle.std.proofs.lemmas.Bool.{cases_lt}
use Rattle.std.proofs.lemmas.Grind.{div_ceil_times}
use Rattle.std.proofs.lemmas.Int.{ints}
use Rattle.md_device.specs.Splice.{part, SameOutside}
use Rattle.md_device.proofs.Splices.{part_before, part_after}
use Rattle.md_format.specs.Fields.{number_at}
use Rattle.md_bitmap.specs.Marks.{is_set}
use Rattle.md_members.specs.declared.area.Area.{Area}
use Rattle.md_members.specs.Areas.{BitmapIsPlaced, AreAreasPlaced, LogIsPlaced, IsApartFromLog, AreApart, bitmap_area, bitmap_sectors, data_area, log_area, super_area}
use Rattle.md_super.specs.Log.{has_bad_block_log}
use Rattle.md_members.specs.Members.{sectors_of_device}
use Rattle.md_model.specs.Sectors.{block_of}
use Rattle.md_model.specs.Devices.{Stored}
use Rattle.md_model.proofs.Cases.{is_below}
use Rattle.md_kept_members.specs.View.{MemberView}
use Rattle.md_kept_members.specs.OnDevices.Storing.{sector_from_super}
use Rattle.md_kept_members.proofs.OnDeviceLemmas.Beside.{apart_either_way, sector_at_is}
use Rattle.md_state.specs.View.{ArrayView, Disk, MirrorView}
use Rattle.md_state.specs.Members.{IsMember}
use Rattle.md_array.specs.Consistency.{IsConsistent}
use Rattle.md_array.specs.Worlds.{block_on, header_fits, header_on, stored_of, super_in}
use Rattle.md_array.proofs.Worlds.Listed as lists
use Rattle.md_array.proofs.Worlds.Listed.{IsLogKept}
use Rattle.md_array.proofs.Worlds.Outside.{LiesIn, apart_from_part, bit_stays, block_stays, byte_stays, data_stays, header_stays, log_stays}
use Rattle.md_array.proofs.General.Tests.{and_same}
use Rattle.md_array.proofs.Worlds.Writes.{is_set-same, within_area}
use Rattle.std.proofs.lemmas.Option.{slice_get_within}
use Rattle.md_assembly.proofs.Indices.{got_within}

-- a member's parts on a device of this content, whose sizes are the array's
pub record HasParts (a : ArrayView) (m : MemberView) (content : List ℕ) : Type 0 where
  pub placed : AreAreasPlaced (sectors_of_device content) m.superblock (bitmap_sectors m.stored.chunks)
  pub bitmap : BitmapIsPlaced (sectors_of_device content) m.superblock (bitmap_sectors m.stored.chunks)
  pub size : m.superblock.size ≡ a.chunks.size
  pub count : m.stored.chunks ≡ a.marks.chunks

pub parts_of : (v : MirrorView) → IsConsistent v → (k : ℕ) (d : Disk) (m : MemberView) → slice_get v.disks k ≡ Some d → IsMember v.array k m → HasParts v.array m d.content
parts_of v c k d m at_disk at_member =
    let fit = c.fits.each k d m at_disk at_member in
    record {
      placed = fit.placed;
      bitmap = fit.placed.bitmap fit.has;
      size = c.chunks.member_size k m at_member ∙ sym c.chunks.size;
      count = c.chunks.member_count k m at_member;
    }

-- no device is longer, so that no list misses a sector of the array
pub ends_below : (v : MirrorView) → IsConsistent v → (k : ℕ) (m : MemberView) → IsMember v.array k m → m.superblock.data_offset + v.array.chunks.size ≤ 2 ^ 54
ends_below v c k m at =
    let low = slice_get_within v.array.members k m at in
    let many = c.fits.as_many in
    let d = got_within v.disks k (omega arith) in
    let fit = c.fits.each k d.0 m d.1 at in
    let has = parts_of v c k d.0 m d.1 at in
    let short = fit.short in
    let within = fit.placed.data_within in
    let holds : v.array.chunks.size ≤ m.superblock.data_size = subst (λ (n : ℕ). n ≤ m.superblock.data_size) has.size fit.placed.data_holds in
    omega arith

pub same_if : {A : Type 0} (b : Bool) (x y z : A) → (b ≡ true → x ≡ y) → cond b x z ≡ cond b y z
same_if true x y z h = h refl
same_if false x y z h = refl

-- the sector of the bitmap where a chunk's bit stands
bit_outside : (first block c : ℕ) → block_of c ≢ block → (512 * first + 256 + c / 8 < 512 * (first + block)) ⊎ (512 * (first + block) + 512 ≤ 512 * first + 256 + c / 8)
bit_outside first block c other =
    elim (cases_lt (block_of c) block) [
      | inl before ↦ inl (omega arith)
      | inr behind ↦
          elim (cases_lt block (block_of c)) [
            | inl after ↦ inr (omega arith)
            | inr same ↦ absurd (other (omega arith))
          ]
    ]

bit_elsewhere : (first block c : ℕ) (old new : List ℕ) → SameOutside (512 * (first + block)) 512 old new → block_of c ≢ block
    → is_set (drop (512 * first + 256) new) c ≡ is_set (drop (512 * first + 256) old) c
bit_elsewhere first block c old new same other =
    is_set-same (drop (512 * first + 256) new) (drop (512 * first + 256) old) c
    (get_or-drop (512 * first + 256) new (c / 8) 0
    ∙ byte_stays (512 * (first + block)) 512 (512 * first + 256 + c / 8) old new same (bit_outside first block c other)
    ∙ sym (get_or-drop (512 * first + 256) old (c / 8) 0))

module _ (a : ArrayView) (m : MemberView) (old new : List ℕ) (has : HasParts a m old) where
  abbrev was : Stored
  was = stored_of a m old

  abbrev is : Stored
  is = stored_of a m new

  abbrev first : ℕ
  first = sector_from_super m.superblock.bitmap_offset

  abbrev width : ℕ
  width = bitmap_sectors m.stored.chunks

  abbrev bitmap : Area
  bitmap = bitmap_area m.superblock width

  bitmap_first : bitmap.start ≡ pos first
  bitmap_first = sector_at_is bitmap.start has.bitmap.within.from

  some_width : 0 < width
  some_width = let n = div_ceil_times (256 + div_ceil m.stored.chunks 8) 512 (omega arith) in omega (arith, n.0)

  -- each part, where this area is written, and is apart from it
  module _ (written : Area) (start : ℕ) (at : written.start ≡ pos start) (same : SameOutside (512 * start) (512 * written.sectors) old new) where
    block_kept : AreApart super_area written → block_on new ≡ block_on old
    block_kept = block_stays written start at old new same

    content_kept : AreApart (data_area m.superblock) written → is.content ≡ was.content
    content_kept h = λ i s.
        same_if (nat_lt s a.chunks.size) (part new (512 * (m.superblock.data_offset + s)) 512) (part old (512 * (m.superblock.data_offset + s)) 512) []
        (λ low. data_stays written start at old new same m.superblock h has.placed.data_holds s (subst (λ n. s < n) (sym has.size) (is_below s a.chunks.size low))) i

    log_kept : IsApartFromLog m.superblock written → IsLogKept m.superblock old new
    log_kept h there = log_stays written start at old new same m.superblock (h there) (has.placed.log there).within.from

    listed_kept : IsApartFromLog m.superblock written → AreApart super_area written → is.listed ≡ was.listed
    listed_kept h block = λ i s. (nat_lt s a.chunks.size && lists.listed_kept m.superblock old new (log_kept h) (m.superblock.data_offset + s) (block_kept block) i)

    bits_kept : AreApart bitmap written → is.bits ≡ was.bits
    bits_kept h = λ i c.
        and_same (nat_lt c a.marks.chunks) (is_set (drop (512 * first + 256) new) c) (is_set (drop (512 * first + 256) old) c)
        (λ low. bit_stays written start at old new same bitmap first bitmap_first h c (within_area m.stored.chunks c (subst (λ n. c < n) (sym has.count) (is_below c a.marks.chunks low)))) i

    header_kept : AreApart bitmap written → header_on new first ≡ header_on old first
    header_kept h = header_stays written start at old new same bitmap first bitmap_first h some_width

  -- ---- the superblock is written
  module _ (same : SameOutside (512 * 8) 4096 old new) where
    -- no more than the superblock changes, if it is beside a log that lists the same
    pub super_alone : is ≡ record was { super = super_in (block_on new); listed = is.listed }
    super_alone =
        let header = header_kept super_area 8 refl same (apart_either_way super_area bitmap has.bitmap.from_super) in
        λ i. record {
          super = super_in (block_on new);
          content = content_kept super_area 8 refl same (apart_either_way super_area (data_area m.superblock) has.placed.data_apart) i;
          listed = is.listed;
          bits = bits_kept super_area 8 refl same (apart_either_way super_area bitmap has.bitmap.from_super) i;
          bitmap_events = number_at 8 24 (header i);
          bitmap_cleared = number_at 8 32 (header i);
          bitmap_fits = header_fits a (header i);
        }

    -- nor the log, nor the header of the bitmap
    pub log_beside_super : IsLogKept m.superblock old new
    log_beside_super = log_kept super_area 8 refl same (λ there. apart_either_way super_area (log_area m.superblock) (has.placed.log there).from_super)

    pub header_beside_super : header_on new first ≡ header_on old first
    header_beside_super = header_kept super_area 8 refl same (apart_either_way super_area bitmap has.bitmap.from_super)

  -- ---- the bitmap is written
  module _ (same : SameOutside (512 * first) (512 * width) old new) where
    pub block_beside_bitmap : block_on new ≡ block_on old
    block_beside_bitmap = block_kept bitmap first bitmap_first same has.bitmap.from_super

    pub log_beside_bitmap : IsLogKept m.superblock old new
    log_beside_bitmap = log_kept bitmap first bitmap_first same has.bitmap.from_log

    -- no more than the bitmap changes
    pub bitmap_alone : is ≡ record was { bits = is.bits; bitmap_events = is.bitmap_events; bitmap_cleared = is.bitmap_cleared; bitmap_fits = is.bitmap_fits }
    bitmap_alone = λ i. record {
      super = super_in (block_beside_bitmap i);
      content = content_kept bitmap first bitmap_first same has.bitmap.from_data i;
      listed = listed_kept bitmap first bitmap_first same has.bitmap.from_log has.bitmap.from_super i;
      bits = is.bits;
      bitmap_events = is.bitmap_events;
      bitmap_cleared = is.bitmap_cleared;
      bitmap_fits = is.bitmap_fits;
    }

  -- ---- the log is written
  module _ (there : has_bad_block_log m.superblock ≡ true) (same : SameOutside (512 * sector_from_super m.superblock.bblog_offset) (512 * m.superblock.bblog_size) old new) where
    abbrev log_start : ℕ
    log_start = sector_from_super m.superblock.bblog_offset

    log_placed : LogIsPlaced (sectors_of_device old) m.superblock
    log_placed = has.placed.log there

    log_first : (log_area m.superblock).start ≡ pos log_start
    log_first = sector_at_is (log_area m.superblock).start log_placed.within.from

    bitmap_from_log : AreApart bitmap (log_area m.superblock)
    bitmap_from_log = apart_either_way (log_area m.superblock) bitmap (has.bitmap.from_log there)

    pub block_beside_log : block_on new ≡ block_on old
    block_beside_log = block_kept (log_area m.superblock) log_start log_first same log_placed.from_super

    pub header_beside_log : header_on new first ≡ header_on old first
    header_beside_log = header_kept (log_area m.superblock) log_start log_first same bitmap_from_log

    -- no more than the log changes
    pub log_alone : is ≡ record was { listed = is.listed }
    log_alone =
        let header = header_beside_log in
        λ i. record {
          super = super_in (block_beside_log i);
          content = content_kept (log_area m.superblock) log_start log_first same log_placed.from_data i;
          listed = is.listed;
          bits = bits_kept (log_area m.superblock) log_start log_first same bitmap_from_log i;
          bitmap_events = number_at 8 24 (header i);
          bitmap_cleared = number_at 8 32 (header i);
          bitmap_fits = header_fits a (header i);
        }

  -- ---- a sector of the bitmap is written
  module _ (block : ℕ) (low : block < width) (same : SameOutside (512 * (first + block)) 512 old new) where
    abbrev sector : Area
    sector = record { start = pos (first + block); sectors = 1 }

    sector_lies : LiesIn bitmap sector
    sector_lies = let e = bitmap_first in record { from = omega (arith, ints); to = omega (arith, ints) }

    -- the superblock stays
    pub block_beside_marks : block_on new ≡ block_on old
    block_beside_marks = block_kept sector (first + block) refl same (apart_from_part super_area bitmap sector sector_lies has.bitmap.from_super)

    pub log_beside_marks : IsLogKept m.superblock old new
    log_beside_marks = log_kept sector (first + block) refl same (λ there. apart_from_part (log_area m.superblock) bitmap sector sector_lies (has.bitmap.from_log there))

    -- no more than the bitmap changes
    pub marks_alone : is ≡ record was { bits = is.bits; bitmap_events = is.bitmap_events; bitmap_cleared = is.bitmap_cleared; bitmap_fits = is.bitmap_fits }
    marks_alone = λ i. record {
      super = super_in (block_beside_marks i);
      content = content_kept sector (first + block) refl same (apart_from_part (data_area m.superblock) bitmap sector sector_lies has.bitmap.from_data) i;
      listed = listed_kept sector (first + block) refl same (λ there. apart_from_part (log_area m.superblock) bitmap sector sector_lies (has.bitmap.from_log there)) (apart_from_part super_area bitmap sector sector_lies has.bitmap.from_super) i;
      bits = is.bits;
      bitmap_events = is.bitmap_events;
      bitmap_cleared = is.bitmap_cleared;
      bitmap_fits = is.bitmap_fits;
    }

    -- nor the bits of other sectors
    pub bits_elsewhere : (c : ℕ) → block_of c ≢ block → is.bits c ≡ was.bits c
    bits_elsewhere c other =
        and_same (nat_lt c a.marks.chunks) (is_set (drop (512 * first + 256) new) c) (is_set (drop (512 * first + 256) old) c)
        (λ _. bit_elsewhere first block c old new same other)

    -- nor the header, unless its sector is written
    pub header_elsewhere : block ≢ 0 → header_on new first ≡ header_on old first
    header_elsewhere other = part_before same (512 * first) 256 (omega arith)

    pub events_elsewhere : block ≢ 0 → is.bitmap_events ≡ was.bitmap_events
    events_elsewhere other = ap (number_at 8 24) (header_elsewhere other)

    pub cleared_elsewhere : block ≢ 0 → is.bitmap_cleared ≡ was.bitmap_cleared
    cleared_elsewhere other = ap (number_at 8 32) (header_elsewhere other)

    pub fits_elsewhere : block ≢ 0 → is.bitmap_fits ≡ was.bitmap_fits
    fits_elsewhere other = ap (header_fits a) (header_elsewhere other)

  -- ---- sectors of the data are written
  module _ (s n : ℕ) (inside : s + n ≤ a.chunks.size) (same : SameOutside (512 * (m.superblock.data_offset + s)) (512 * n) old new) where
    abbrev sectors : Area
    sectors = record { start = pos (m.superblock.data_offset + s); sectors = n }

    sectors_lie : LiesIn (data_area m.superblock) sectors
    sectors_lie = let e = has.size in let holds = has.placed.data_holds in record { from = omega (arith, ints); to = omega (arith, ints) }

    -- the superblock stays
    pub block_beside_data : block_on new ≡ block_on old
    block_beside_data = block_kept sectors (m.superblock.data_offset + s) refl same (apart_from_part super_area (data_area m.superblock) sectors sectors_lie has.placed.data_apart)

    from_bitmap : AreApart bitmap sectors
    from_bitmap = apart_from_part bitmap (data_area m.superblock) sectors sectors_lie (apart_either_way (data_area m.superblock) bitmap has.bitmap.from_data)

    from_log : IsApartFromLog m.superblock sectors
    from_log there =
        apart_from_part (log_area m.superblock) (data_area m.superblock) sectors sectors_lie
        (apart_either_way (data_area m.superblock) (log_area m.superblock) (has.placed.log there).from_data)

    pub log_beside_data : IsLogKept m.superblock old new
    log_beside_data = log_kept sectors (m.superblock.data_offset + s) refl same from_log

    pub header_beside_data : header_on new first ≡ header_on old first
    header_beside_data = header_kept sectors (m.superblock.data_offset + s) refl same from_bitmap

    -- no more than the data changes
    pub data_alone : is ≡ record was { content = is.content }
    data_alone =
        let at = m.superblock.data_offset + s in
        let header = header_beside_data in
        λ i. record {
          super = super_in (block_beside_data i);
          content = is.content;
          listed = listed_kept sectors at refl same from_log (apart_from_part super_area (data_area m.superblock) sectors sectors_lie has.placed.data_apart) i;
          bits = bits_kept sectors at refl same from_bitmap i;
          bitmap_events = number_at 8 24 (header i);
          bitmap_cleared = number_at 8 32 (header i);
          bitmap_fits = header_fits a (header i);
        }

    -- nor other sectors of it
    pub data_elsewhere : (t : ℕ) → (t < s) ⊎ (s + n ≤ t) → is.content t ≡ was.content t
    data_elsewhere t apart =
        ap (λ (x : List ℕ). cond (nat_lt t a.chunks.size) x [])
        (elim apart [
          | inl before ↦ part_before same (512 * (m.superblock.data_offset + t)) 512 (omega arith)
          | inr behind ↦ part_after same (512 * (m.superblock.data_offset + t)) 512 (omega arith)
        ])
