-- What stands on a device once all of a member but its data is stored there.
use Rattle.std.proofs.Common.{◌≡◌, ℕ, ◌+◌, ◌-◌, ◌*◌, ◌≤◌, Bool, true, false, cond, not, ◌==◌, bit_and, pos, if◌then◌else◌, List, [], ◌∷◌, ◌++◌, length, length-append, replicate, refl, sym, ap, ◌∙◌, subst, arith}
use Rattle.std.specs.List.{flat_map}
use Rattle.std.proofs.lemmas.List.{length-replicate}
use Rattle.std.proofs.lemmas.List.Sums.{sum_by-cons}
use Rattle.std.proofs.lemmas.List.FromFn.{length-map-range_with_len}
use Rattle.std.proofs.lemmas.Nat.{and_assoc}
use Rattle.md_device.specs.Splice.{part, SameOutside}
use Rattle.md_device.specs.Device.{written}
use Rattle.md_device.proofs.Splices.{part-spliced, spliced_outside}
use Rattle.md_super.specs.declared.superblock.Superblock.{Superblock}
use Rattle.md_super.specs.Log.{has_bad_block_log}
use Rattle.md_super.specs.Merge.{merged}
use Rattle.md_bitmap.specs.declared.header.BitmapHeader.{BitmapHeader}
use Rattle.md_bitmap.specs.Header.{IsHeader}
use Rattle.md_bitmap.proofs.Encoded.{length-header_bytes, reads_back}
use Rattle.md_badblocks.specs.declared.run.Run.{Run}
use Rattle.md_badblocks.specs.Log.{all_ones, entries_of, entry_at, log_bytes}
use Rattle.md_badblocks.specs.Runs.{entries_needed, entry_count}
use Rattle.md_badblocks.proofs.Entries.{length-bytes}
use Rattle.md_members.specs.declared.area.Area.{Area}
use Rattle.md_members.specs.Areas.{AreApart, BitmapIsPlaced, AreAreasPlaced, LogIsPlaced, bitmap_area, bitmap_sectors, has_bad_blocks, has_bitmap, log_area, super_area}
use Rattle.md_members.specs.Members.{sectors_of_device}
use Rattle.md_members.specs.Reading.{BitmapStartsAt}
use Rattle.md_members.specs.DeviceWrites.Bitmaps.{bitmap_writes}
use Rattle.md_members.specs.DeviceWrites.Writes.{after}
use Rattle.md_members.proofs.DeviceWriteLemmas.Runs.{after-append}
use Rattle.md_members.proofs.DeviceWriteLemmas.Stored.{AreStored, stored_all}
use Rattle.md_members.proofs.DeviceWriteLemmas.Frames.{outside_around}
use Rattle.md_kept_members.specs.Enrolling.{HasRoomFor, in_sync_superblock, log_room, whole-supported}
use Rattle.md_kept_members.specs.View.{MemberView}
use Rattle.md_kept_members.specs.OnDevices.Storing.{IsStorable, KeepsDataOn, log_writes, member_writes, sector_from_super}
use Rattle.md_kept_members.specs.OnDevices.Superblocks.{IsReadable, write_of}
use Rattle.md_kept_members.proofs.OnDeviceLemmas.Beside.{apart_either_way, data_beside_bitmap, data_beside_log, data_beside_super, data_then, sector_at_is}
use Rattle.md_state.specs.Headers.{IsHeaderFor}
use Rattle.md_state.specs.View.{ArrayView}
use Rattle.md_array.specs.Worlds.{block_on}
use Rattle.md_array.proofs.Openings.OwnFields as own_fields
use Rattle.md_array.proofs.Worlds.Device.{fits_on}
use Rattle.md_array.proofs.Worlds.Outside.{bit_stays, header_stays, log_stays, starts_at}
use Rattle.md_array.proofs.Worlds.Writes.{HoldsBitmap, holds_written, within_area}

-- ---- its superblock, once it is in sync
module _ (v : Superblock) (list : List Run) where
  -- the same superblock without bit 2
  abbrev pub whole : Superblock
  whole = record v {
    feature_map = bit_and v.feature_map 0xffff_fffd;
    in_profile = record {
      features = whole-supported v.feature_map v.in_profile.features;
      level_is = v.in_profile.level_is;
      some_disks = v.in_profile.some_disks;
      few_disks = v.in_profile.few_disks;
      super_offset_is = v.in_profile.super_offset_is;
    };
  }

  pub bitmap_in_sync : has_bitmap (in_sync_superblock list v) ≡ has_bitmap v
  bitmap_in_sync = own_fields.bitmap_same list whole ∙ ap (λ n. not (n == 0)) (and_assoc 1 v.feature_map 0xffff_fffd)

  log_in_sync : (sectors : ℕ) → LogIsPlaced sectors v → LogIsPlaced sectors (in_sync_superblock list v)
  log_in_sync sectors p = record { short = p.short; within = p.within; from_super = p.from_super; from_data = p.from_data }

  marks_in_sync : (sectors width : ℕ) → BitmapIsPlaced sectors v width → BitmapIsPlaced sectors (in_sync_superblock list v) width
  marks_in_sync sectors width p = record { within = p.within; from_super = p.from_super; from_data = p.from_data; from_log = p.from_log }

  pub placed_in_sync : (sectors width : ℕ) → AreAreasPlaced sectors v width → AreAreasPlaced sectors (in_sync_superblock list v) width
  placed_in_sync sectors width p = record {
    some_size = p.some_size;
    data_holds = p.data_holds;
    data_within = p.data_within;
    data_apart = p.data_apart;
    log = λ has. log_in_sync sectors (p.log has);
    bitmap = λ has. marks_in_sync sectors width (p.bitmap (sym bitmap_in_sync ∙ has));
  }

-- bit 8 tells whether it lists something
pub none_bad : (v : Superblock) → has_bad_blocks (in_sync_superblock [] v) ≡ false
none_bad v = own_fields.none_listed (whole v [])

pub some_bad : (run : Run) (runs : List Run) (v : Superblock) → has_bad_blocks (in_sync_superblock (run ∷ runs) v) ≡ true
some_bad run runs v = own_fields.some_listed run runs (whole v (run ∷ runs))

-- ---- how long its log is
length-entries : (runs : List Run) → length (flat_map entries_of runs) ≡ entries_needed runs
length-entries [] = refl
length-entries (run ∷ runs) =
    length-append (entries_of run) (flat_map entries_of runs)
    ∙ ap (λ n. n + length (flat_map entries_of runs)) (length-map-range_with_len (entry_at run) 0 (entry_count run))
    ∙ ap (λ n. entry_count run + n) (length-entries runs)
    ∙ sym (sum_by-cons entry_count run runs)

pub length-log_bytes : (runs : List Run) (room : ℕ) → entries_needed runs ≤ room → length (log_bytes runs room) ≡ 8 * room
length-log_bytes runs room fits =
    let ones : List ℕ = replicate (room - entries_needed runs) all_ones in
    length-bytes (flat_map entries_of runs ++ ones)
    ∙ ap (λ n. 8 * n) (length-append (flat_map entries_of runs) ones
    ∙ (let front = length-entries runs in let rest = length-replicate {A = ℕ} (room - entries_needed runs) all_ones in omega arith))

-- ---- what stands there
-- All of the member but its data, beside these fields of the array, with this header.
pub record HoldsMember (shared : Superblock) (n : MemberView) (h : BitmapHeader) (content : List ℕ) : Type 0 where
  pub block : block_on content ≡ (write_of shared n).bytes
  pub log : has_bad_block_log n.superblock ≡ true → part content (512 * sector_from_super n.superblock.bblog_offset) (512 * n.superblock.bblog_size) ≡ log_bytes n.bad (log_room n.superblock)
  pub bitmap : HoldsBitmap content (sector_from_super n.superblock.bitmap_offset) h n.stored

-- the log has so many bytes
pub log_long : (n : MemberView) → HasRoomFor n.superblock n.bad → has_bad_block_log n.superblock ≡ true → length (log_bytes n.bad (log_room n.superblock)) ≡ 512 * n.superblock.bblog_size
log_long n room there =
    let entries : log_room n.superblock ≡ 64 * n.superblock.bblog_size = ap (λ (b : Bool). cond b (64 * n.superblock.bblog_size) 0) there in
    length-log_bytes n.bad (log_room n.superblock) room ∙ (omega arith)

module _ (a : ArrayView) (n : MemberView) (start : ℕ) (starts : BitmapStartsAt n.superblock start) (h : BitmapHeader) (header : IsHeaderFor a n h)
    (shared : Superblock) (old : List ℕ) (fit : IsStorable n old) (readable : IsReadable (merged shared n.superblock)) where
  abbrev pub own : Superblock
  own = n.superblock

  abbrev pub width : ℕ
  width = bitmap_sectors n.stored.chunks

  abbrev pub marked : List ℕ
  marked = after old (bitmap_writes start h n.stored width)

  abbrev pub listed : List ℕ
  listed = after marked (log_writes own n.bad)

  abbrev new : List ℕ
  new = after listed (write_of shared n ∷ [])

  abbrev pub bitmap : Area
  bitmap = bitmap_area own width

  pub bitmap_placed : BitmapIsPlaced (sectors_of_device old) own width
  bitmap_placed = fit.placed.bitmap fit.has

  pub bitmap_room : 512 * (start + width) ≤ length old
  bitmap_room = fits_on bitmap.start start width (length old) starts bitmap_placed.within.to

  pub marks_stored : AreStored start h n.stored 0 width old marked
  marks_stored = stored_all start h n.stored width old (omega arith) bitmap_room

  marked_long : length marked ≡ length old
  marked_long = marks_stored.outside.size

  pub marked_holds : HoldsBitmap marked start h n.stored
  marked_holds = holds_written start h n.stored old marked (length-header_bytes h header.uuid_long header.name_long)
      (reads_back h header.uuid_long header.name_long header.counts_fit header.settings_fit) bitmap_room refl

  -- ---- the log
  module _ (there : has_bad_block_log own ≡ true) where
    log_placed : LogIsPlaced (sectors_of_device old) own
    log_placed = fit.placed.log there

    pub log_at : (log_area own).start ≡ pos (sector_from_super own.bblog_offset)
    log_at = sector_at_is (log_area own).start log_placed.within.from

    log_fits : 512 * (sector_from_super own.bblog_offset + own.bblog_size) ≤ length marked
    log_fits = subst (λ (x : ℕ). 512 * (sector_from_super own.bblog_offset + own.bblog_size) ≤ x) (sym marked_long)
        (fits_on (log_area own).start (sector_from_super own.bblog_offset) own.bblog_size (length old) (sym log_at) log_placed.within.to)

    listed_is : listed ≡ written marked (sector_from_super own.bblog_offset) (log_bytes n.bad (log_room own))
    listed_is = ap (λ (b : Bool). after marked (if b then record { sector = sector_from_super own.bblog_offset; bytes = log_bytes n.bad (log_room own) } ∷ [] else [])) there

    pub listed_outside : SameOutside (512 * sector_from_super own.bblog_offset) (512 * own.bblog_size) marked listed
    listed_outside = subst (SameOutside (512 * sector_from_super own.bblog_offset) (512 * own.bblog_size) marked) (sym listed_is)
        (spliced_outside marked (512 * sector_from_super own.bblog_offset) (log_bytes n.bad (log_room own)) (512 * own.bblog_size) (sym (log_long n fit.room there)) (omega (arith, log_fits)))

    listed_log : part listed (512 * sector_from_super own.bblog_offset) (512 * own.bblog_size) ≡ log_bytes n.bad (log_room own)
    listed_log = ap (λ (xs : List ℕ). part xs (512 * sector_from_super own.bblog_offset) (512 * own.bblog_size)) listed_is
        ∙ part-spliced marked (512 * sector_from_super own.bblog_offset) (log_bytes n.bad (log_room own)) (512 * own.bblog_size) (sym (log_long n fit.room there)) (omega (arith, log_fits))

  pub unlisted : has_bad_block_log own ≡ false → listed ≡ marked
  unlisted none = ap (λ (b : Bool). after marked (if b then record { sector = sector_from_super own.bblog_offset; bytes = log_bytes n.bad (log_room own) } ∷ [] else [])) none

  -- with a log or without
  pub by_log : {P : Type 0} → (has_bad_block_log own ≡ true → P) → (has_bad_block_log own ≡ false → P) → P
  by_log {P} with_log without = by (has_bad_block_log own) refl
    where
      by : (b : Bool) → has_bad_block_log own ≡ b → P
      by true is = with_log is
      by false is = without is

  pub listed_long : length listed ≡ length old
  listed_long = by_log (λ there. (listed_outside there).size ∙ marked_long) (λ none. ap length (unlisted none) ∙ marked_long)

  -- ---- the superblock
  named : SameOutside (512 * 8) 4096 listed new
  named = let long = listed_long in let enough = fit.long in spliced_outside listed (512 * 8) (write_of shared n).bytes 4096 (sym readable.size) (omega arith)

  block_new : block_on new ≡ (write_of shared n).bytes
  block_new = let long = listed_long in let enough = fit.long in part-spliced listed (512 * 8) (write_of shared n).bytes 4096 (sym readable.size) (omega arith)

  log_new : has_bad_block_log own ≡ true → part new (512 * sector_from_super own.bblog_offset) (512 * own.bblog_size) ≡ log_bytes n.bad (log_room own)
  log_new there =
      let log = log_placed there in
      log_stays super_area 8 refl listed new named own (apart_either_way super_area (log_area own) log.from_super) log.within.from ∙ listed_log there

  -- ---- the bitmap stays beside both
  pub bitmap_beside : (area : Area) (at : ℕ) → area.start ≡ pos at → AreApart bitmap area → (xs ys : List ℕ) → SameOutside (512 * at) (512 * area.sectors) xs ys
      → HoldsBitmap xs start h n.stored → HoldsBitmap ys start h n.stored
  bitmap_beside area at is apart xs ys same holds = record {
    header = subst (λ (bytes : List ℕ). IsHeader bytes h) (sym (header_stays area at is xs ys same bitmap start (sym starts) apart (omega arith))) holds.header;
    bits = λ c low. bit_stays area at is xs ys same bitmap start (sym starts) apart c (within_area n.stored.chunks c low) ∙ holds.bits c low;
  }

  pub listed_holds : HoldsBitmap listed start h n.stored
  listed_holds = by_log
      (λ there. bitmap_beside (log_area own) (sector_from_super own.bblog_offset) (log_at there) (apart_either_way (log_area own) bitmap (bitmap_placed.from_log there)) marked listed (listed_outside there) marked_holds)
      (λ none. subst (λ (xs : List ℕ). HoldsBitmap xs start h n.stored) (sym (unlisted none)) marked_holds)

  holds_new : HoldsBitmap new start h n.stored
  holds_new = bitmap_beside super_area 8 refl (apart_either_way super_area bitmap bitmap_placed.from_super) listed new named listed_holds

  in_order : after old (member_writes start h shared n) ≡ new
  in_order =
      after-append old (bitmap_writes start h n.stored width) (log_writes own n.bad ++ write_of shared n ∷ [])
      ∙ after-append marked (log_writes own n.bad) (write_of shared n ∷ [])

  pub all_long : length (after old (member_writes start h shared n)) ≡ length old
  all_long = ap length in_order ∙ named.size ∙ listed_long

  pub marks_outside : SameOutside (512 * start) (512 * width) old marked
  marks_outside = let outside = marks_stored.outside in outside_around outside (512 * start) (512 * width) (omega arith) (omega arith)

  pub data_kept : KeepsDataOn n old (after old (member_writes start h shared n))
  data_kept =
      data_then n old marked (after old (member_writes start h shared n))
      (data_beside_bitmap n old marked (sectors_of_device old) fit.placed fit.has start starts marks_outside)
      (data_then n marked listed (after old (member_writes start h shared n))
      (by_log (λ there. data_beside_log n marked listed (sectors_of_device old) fit.placed there (listed_outside there)) (λ none. λ i m from to. ap (λ (xs : List ℕ). part xs i m) (unlisted none)))
      (subst (λ (xs : List ℕ). KeepsDataOn n listed xs) (sym in_order) (data_beside_super n listed new (sectors_of_device old) fit.placed named)))

  -- all of it, once the writes are done
  pub holds_member : (content : List ℕ) → content ≡ after old (member_writes start h shared n) → HoldsMember shared n h content
  holds_member content done = subst (HoldsMember shared n h) (sym (done ∙ in_order)) (record {
    block = block_new;
    log = log_new;
    bitmap = subst (λ (at : ℕ). HoldsBitmap new at h n.stored) (sym (starts_at own start starts)) holds_new;
  })
