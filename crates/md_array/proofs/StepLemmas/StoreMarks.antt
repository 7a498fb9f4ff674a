-- A sector of a member's bitmap that is stored is the model's event, and the mirror stays consistent.
use Rattle.std.proofs.Common.{◌≡◌, ◌≢◌, ℕ, ◌+◌, ◌-◌, ◌*◌, ◌/◌, ◌<◌, ◌≤◌, Bool, true, false, cond, ◌&&◌, eqb, nat_lt, List, ◌++◌, length, drop, slice_get, slice_index, Option, Some, refl, sym, ap, ◌∙◌, subst, arith, eq-eqb, get_or-drop}
use Rattle.std.proofs.lemmas.List.{ext_get_or, get_or-append-add, get_or_append_left}
use Rattle.std.proofs.lemmas.Option.{slice_get_within}
use Rattle.std.proofs.lemmas.Bool.{and_from, ne_eqb}
use Rattle.md_device.specs.Splice.{SameOutside}
use Rattle.md_device.specs.Device.{written}
use Rattle.md_device.proofs.Splices.{length-part, length-spliced, part-spliced, slice_index-part}
use Rattle.md_format.specs.Fields.{number_at}
use Rattle.md_bitmap.specs.declared.header.BitmapHeader.{BitmapHeader}
use Rattle.md_bitmap.specs.Header.{IsHeader, header_bytes}
use Rattle.md_bitmap.specs.Marks.{Bitmap, is_set}
use Rattle.md_bitmap.proofs.Encoded.{length-header_bytes, reads_back}
use Rattle.md_bitmap.proofs.Padded.{length-padded, slice_index-padded}
use Rattle.md_bitmap.specs.Sectors.{bitmap_sector}
use Rattle.md_bitmap.proofs.Blocks.{length-bitmap_sector}
use Rattle.md_members.specs.Areas.{bitmap_sectors}
use Rattle.md_members.specs.DeviceWrites.Writes.{Write}
use Rattle.md_model.specs.Sectors.{block_of, put}
use Rattle.md_model.specs.States as model
use Rattle.md_model.specs.Devices.{Stored}
use Rattle.md_model.specs.Worlds.{Request, World}
use Rattle.md_model.specs.Steps.{bits_after, marked_device, marks_stored}
use Rattle.md_model.specs.Events.{Event, Step}
use Rattle.md_model.proofs.Steps.Between.{between_step, in_flight_step}
use Rattle.md_model.proofs.Puts.{by_same, put-at, put-self}
use Rattle.md_assembly.specs.States.{is_in_sync}
use Rattle.md_assembly.proofs.Indices.{got_within}
use Rattle.md_inflight.specs.Requests.Pending.{PendingView}
use Rattle.md_kept_members.specs.View.{MemberView}
use Rattle.md_kept_members.specs.OnDevices.Storing.{sector_from_super}
use Rattle.md_kept_members.proofs.OnDeviceLemmas.Beside.{sector_at_is}
use Rattle.md_state.specs.View.{ArrayView, Disk, MirrorView, geometry_of}
use Rattle.md_state.specs.Steps.StoreMarks.{StoresMarkSector}
use Rattle.md_state.specs.Requests.{IsPending}
use Rattle.md_array.specs.Consistency.{HasPlaces, HasSuper, IsConsistent}
use Rattle.md_array.specs.ReadAsKept.{HasWidth, IsReadAsKept}
use Rattle.md_array.specs.Events.{Happens}
use Rattle.md_array.specs.Worlds.{block_on, header_on, kind_of, stored_of, super_in, world_of}
use Rattle.md_array.proofs.General.Honesty.{tried_honest}
use Rattle.md_array.proofs.Worlds.Listed.{still_next, still_known}
use Rattle.md_array.proofs.StepLemmas.OneMember.{ChangesMember, changed_in_flight, changed_is_consistent, changed_is_pending, changed_world, member_there, stored_there}
use Rattle.md_array.proofs.Worlds.PartsApart.{HasParts, bits_elsewhere, block_beside_marks, cleared_elsewhere, events_elsewhere, fits_elsewhere, header_elsewhere, log_beside_marks, marks_alone, parts_of}
use Rattle.md_array.proofs.Worlds.ReadAsKept.{changed_read, stays}
use Rattle.md_array.proofs.Worlds.Device.{fits_on}
use Rattle.md_array.proofs.Worlds.Member.{header_fits_there}
use Rattle.md_array.proofs.Worlds.Outside.{starts_at}
use Rattle.md_array.proofs.Worlds.States.{same_in_sync}
use Rattle.md_array.proofs.General.Tests.{and_same}
use Rattle.md_array.proofs.Worlds.Writes.{is_set-same}

-- by whether two numbers are the same
by_equal : {A : Type 0} (x y : ℕ) (p q z : A) → (x ≡ y → z ≡ p) → (x ≢ y → z ≡ q) → z ≡ cond (eqb x y) p q
by_equal x y p q z = put-at y p (λ _. q) x (λ r. z ≡ r)

-- ---- what stands in a sector of a bitmap that was written
module _ (start : ℕ) (h : BitmapHeader) (m : Bitmap) (block : ℕ) (old new : List ℕ) (fits : 512 * (start + block) + 512 ≤ length old)
    (long : length (header_bytes h) ≡ 256) (done : new ≡ written old (start + block) (bitmap_sector h m block)) where
  byte_there : (r : ℕ) → r < 512 → slice_index new (512 * (start + block) + r) ≡ slice_index (header_bytes h ++ m.bytes) (512 * block + r)
  byte_there r low =
      let bytes = header_bytes h ++ m.bytes in
      let sector = bitmap_sector h m block in
      ap (λ (xs : List ℕ). slice_index xs (512 * (start + block) + r)) done
      ∙ sym (slice_index-part (written old (start + block) sector) (512 * (start + block)) 512 r low)
      ∙ ap (λ (xs : List ℕ). slice_index xs r) (part-spliced old (512 * (start + block)) sector 512 (sym (length-padded 512 (drop (512 * block) bytes))) (omega arith))
      ∙ slice_index-padded 512 (drop (512 * block) bytes) r low
      ∙ get_or-drop (512 * block) bytes r 0

  -- the bits of its chunks are those of the marks
  bit_there : (c : ℕ) → block_of c ≡ block → is_set (drop (512 * start + 256) new) c ≡ is_set m.bytes c
  bit_there c here =
      let from : 512 * block ≤ 256 + c / 8 = omega arith in
      let to : 256 + c / 8 < 512 * block + 512 = omega arith in
      let r = 256 + c / 8 - 512 * block in
      let place : 512 * start + 256 + c / 8 ≡ 512 * (start + block) + r = omega arith in
      let within : 512 * block + r ≡ length (header_bytes h) + c / 8 = omega arith in
      let low : r < 512 = omega arith in
      is_set-same (drop (512 * start + 256) new) m.bytes c
      (get_or-drop (512 * start + 256) new (c / 8) 0
      ∙ ap (slice_index new) place
      ∙ byte_there r low
      ∙ ap (slice_index (header_bytes h ++ m.bytes)) within
      ∙ get_or-append-add (header_bytes h) m.bytes (c / 8) 0)

  -- the header stands in the first
  header_written : block ≡ 0 → header_on new start ≡ header_bytes h
  header_written first =
      let size : length new ≡ length old = ap length done ∙ length-spliced old (512 * (start + block)) (bitmap_sector h m block) (omega (arith, length-padded 512 (drop (512 * block) (header_bytes h ++ m.bytes)))) in
      let front : length (header_on new start) ≡ 256 = length-part new (512 * start) 256 (omega arith) in
      ext_get_or 0 (header_on new start) (header_bytes h) (front ∙ sym long)
      (λ i l. let low : i < 256 = omega arith in
      let place : 512 * start + i ≡ 512 * (start + block) + i = omega arith in
      let there : 512 * block + i ≡ i = omega arith in
      slice_index-part new (512 * start) 256 i low
      ∙ ap (slice_index new) place
      ∙ byte_there i (omega arith)
      ∙ ap (slice_index (header_bytes h ++ m.bytes)) there
      ∙ get_or_append_left (header_bytes h) m.bytes 0 i (omega arith))

module _ (k block : ℕ) (old new : MirrorView) (is : IsConsistent old) (low : block < bitmap_sectors old.array.marks.chunks) (r : StoresMarkSector k block old new) where
  abbrev m : MemberView
  m = r.member

  abbrev n : MemberView
  n = record r.member { stored = r.stored }

  abbrev a : ArrayView
  a = old.array

  abbrev h : BitmapHeader
  h = r.may.write.header

  abbrev start : ℕ
  start = sector_from_super m.superblock.bitmap_offset

  count : m.stored.chunks ≡ a.marks.chunks
  count = is.chunks.member_count k m r.may.in_sync.member

  low_of_member : block < bitmap_sectors m.stored.chunks
  low_of_member = subst (λ (x : ℕ). block < bitmap_sectors x) (sym count) low

  changes : ChangesMember k m n r.write old new
  changes = record {
    at = r.may.in_sync.member;
    like = record { superblock = refl; bad = refl; offset = refl; header = refl; chunks = r.has_stored.chunks; state = refl };
    disks = r.disks.tried;
    array = r.array;
  }

  -- the write, where the world has the bitmap
  sector_is : r.write.sector ≡ start + block
  sector_is = ap (λ (w : Write). w.sector) r.may.write.is ∙ ap (λ (x : ℕ). x + block) (sym (starts_at m.superblock r.may.write.start r.may.write.starts))

  bytes_are : r.write.bytes ≡ bitmap_sector h a.marks block
  bytes_are = ap (λ (w : Write). w.bytes) r.may.write.is

  length_is : length r.write.bytes ≡ 512
  length_is = ap length bytes_are ∙ length-padded 512 (drop (512 * block) (header_bytes h ++ a.marks.bytes))

  module _ (d e : Disk) (before : slice_get old.disks k ≡ Some d) (after : slice_get new.disks k ≡ Some e) where
    has : HasParts a m d.content
    has = parts_of old is k d m before r.may.in_sync.member

    outside : SameOutside (512 * (start + block)) 512 d.content e.content
    outside = subst (λ (x : ℕ). SameOutside (512 * x) 512 d.content e.content) sector_is
        (subst (λ (x : ℕ). SameOutside (512 * r.write.sector) x d.content e.content) length_is (r.disks.tried.outside d e before after))

    same_block : block_on e.content ≡ block_on d.content
    same_block = block_beside_marks a m d.content e.content has block low_of_member outside

  has_super : (d e : Disk) → slice_get old.disks k ≡ Some d → slice_get new.disks k ≡ Some e → is_in_sync m.state ≡ true → d.honest ≡ true → HasSuper m d → HasSuper n e
  has_super d e before after _ _ had =
      let same = sym (same_block d e before after) in
      record {
        super = had.super;
        is = ap super_in (sym same) ∙ had.is;
        number = had.number;
        recovering = had.recovering;
        places = subst (HasPlaces n) same (record {
          data_offset = had.places.data_offset;
          bitmap_offset = had.places.bitmap_offset;
          bblog_size = had.places.bblog_size;
          bblog_offset = had.places.bblog_offset;
        });
        listed = still_next m.superblock d.content e.content (log_beside_marks a m d.content e.content (has d e before after) block low_of_member (outside d e before after)) (sym same) had.listed;
        known = still_known m.superblock d.content e.content (log_beside_marks a m d.content e.content (has d e before after) block low_of_member (outside d e before after)) had.known;
      }

  pub marks_stored_is_consistent : IsConsistent new
  marks_stored_is_consistent = changed_is_consistent k m n r.write old new changes is has_super

  pub marks_stored_is_pending : (p : PendingView) → IsPending old.array p → IsPending new.array p
  marks_stored_is_pending = changed_is_pending k m n r.write old new changes

  -- ---- the event
  module _ (d e : Disk) (before : slice_get old.disks k ≡ Some d) (after : slice_get new.disks k ≡ Some e) (honest : d.honest ≡ true) (requests : ℕ → Option Request) where
    abbrev w : World
    w = world_of old requests

    abbrev was : Stored
    was = stored_of a m d.content

    long : length (header_bytes h) ≡ 256
    long = length-header_bytes h r.may.write.header_is.uuid_long r.may.write.header_is.name_long

    fits : 512 * (start + block) + 512 ≤ length d.content
    fits =
        let parts = has d e before after in
        let area = fits_on _ start (bitmap_sectors m.stored.chunks) (length d.content) (sym (sector_at_is _ parts.bitmap.within.from)) parts.bitmap.within.to in
        let below = low_of_member in
        omega arith

    done : e.content ≡ written d.content (start + block) (bitmap_sector h a.marks block)
    done = r.disks.done d e before after honest ∙ ap (λ (x : ℕ). written d.content x r.write.bytes) sector_is ∙ ap (written d.content (start + block)) bytes_are

    bits_marked : (c : ℕ) → (stored_of a m e.content).bits c ≡ bits_after w block was.bits c
    bits_marked c = by_equal (block_of c) block (w.marks c) (was.bits c) ((stored_of a m e.content).bits c)
        (λ here. ap (λ b. nat_lt c a.marks.chunks && b) (bit_there start h a.marks block d.content e.content fits long done c here))
        (bits_elsewhere a m d.content e.content (has d e before after) block low_of_member (outside d e before after) c)

    header_there : block ≡ 0 → IsHeader (header_on e.content start) h
    header_there first = subst (λ (bytes : List ℕ). IsHeader bytes h) (sym (header_written start h a.marks block d.content e.content fits long done first))
        (reads_back h r.may.write.header_is.uuid_long r.may.write.header_is.name_long r.may.write.header_is.counts_fit r.may.write.header_is.settings_fit)

    events_marked : (stored_of a m e.content).bitmap_events ≡ cond (eqb block 0) w.events was.bitmap_events
    events_marked = by_equal block 0 w.events was.bitmap_events (stored_of a m e.content).bitmap_events
        (λ first. sym (header_there first).events ∙ r.may.write.header_is.events)
        (events_elsewhere a m d.content e.content (has d e before after) block low_of_member (outside d e before after))

    cleared_marked : (stored_of a m e.content).bitmap_cleared ≡ cond (eqb block 0) w.cleared_at was.bitmap_cleared
    cleared_marked = by_equal block 0 w.cleared_at was.bitmap_cleared (stored_of a m e.content).bitmap_cleared
        (λ first. sym (header_there first).events_cleared ∙ r.may.write.header_is.events_cleared)
        (cleared_elsewhere a m d.content e.content (has d e before after) block low_of_member (outside d e before after))

    fits_marked : (stored_of a m e.content).bitmap_fits ≡ cond (eqb block 0) true was.bitmap_fits
    fits_marked = by_equal block 0 true was.bitmap_fits (stored_of a m e.content).bitmap_fits
        (λ first. header_fits_there a h (header_on e.content start) (header_there first) r.may.write.header_is.uuid r.may.write.header_is.sync_size r.may.write.header_is.state)
        (fits_elsewhere a m d.content e.content (has d e before after) block low_of_member (outside d e before after))

    stored_marked : stored_of a n e.content ≡ marked_device w k block
    stored_marked =
        let at = sym (stored_there old.disks a k m d r.may.in_sync.member before) in
        marks_alone a m d.content e.content (has d e before after) block low_of_member (outside d e before after)
        ∙ (λ i. record was { bits = λ c. bits_marked c i; bitmap_events = events_marked i; bitmap_cleared = cleared_marked i; bitmap_fits = fits_marked i })
        ∙ (λ i. record (at i) {
          bits = bits_after w block (at i).bits;
          bitmap_events = cond (eqb block 0) w.events (at i).bitmap_events;
          bitmap_cleared = cond (eqb block 0) w.cleared_at (at i).bitmap_cleared;
          bitmap_fits = cond (eqb block 0) true (at i).bitmap_fits;
        })

    known_marked : (c : ℕ) → (nat_lt c a.marks.chunks && is_set r.stored.bytes c) ≡ bits_after w block (w.known k) c
    known_marked c =
        let marked = is_set a.marks.bytes c in
        let kept = is_set m.stored.bytes c in
        by_equal (block_of c) block (w.marks c) (w.known k c) (nat_lt c a.marks.chunks && is_set r.stored.bytes c)
        (λ here. and_same (nat_lt c a.marks.chunks) (is_set r.stored.bytes c) marked
        (λ below. r.has_stored.bits c ∙ ap (λ b. cond b marked kept) (and_from _ _ (eq-eqb (block_of c) block here) (ap (nat_lt c) count ∙ below))))
        (λ other. and_same (nat_lt c a.marks.chunks) (is_set r.stored.bytes c) kept
        (λ _. r.has_stored.bits c ∙ ap (λ b. cond (b && nat_lt c m.stored.chunks) marked kept) (ne_eqb (block_of c) block other))
        ∙ sym (member_there a k m false (λ x. nat_lt c a.marks.chunks && is_set x.stored.bytes c) r.may.in_sync.member))

    world_marked : world_of new requests ≡ marks_stored w k block
    world_marked =
        let due : put k m.due w.due ≡ w.due = ap (λ (b : Bool). put k b w.due) (sym (member_there a k m false (λ x. x.due) r.may.in_sync.member)) ∙ put-self k w.due in
        let told : put k m.stored_offset w.stored_offset ≡ w.stored_offset =
        ap (λ o. put k o w.stored_offset) (sym (member_there a k m 0 (λ x. x.stored_offset) r.may.in_sync.member)) ∙ put-self k w.stored_offset in
        changed_world k m n r.write old new changes e after requests
        ∙ (λ i. record w { stored = put k (stored_marked i) w.stored; due = due i; known = put k (λ c. known_marked c i) w.known; stored_offset = told i })

    step : Step (geometry_of a) w (Event.StoreMarks k block) (world_of new requests)
    step =
        let in_sync = ap model.is_in_sync (member_there a k m model.State.Faulty (λ x. kind_of x.state) r.may.in_sync.member) ∙ same_in_sync m.state ∙ r.may.in_sync.in_sync in
        (r.may.running, (in_sync, world_marked))

    -- the header keeps its chunk size
    width_marked : HasWidth a.chunks.sectors m.superblock d.content → HasWidth a.chunks.sectors m.superblock e.content
    width_marked was = by_same block 0
        (λ first. ap (λ (x : ℕ). x / 512) (sym (header_there first).chunksize ∙ r.may.write.header_is.chunksize) ∙ is.chunks.member_width k m r.may.in_sync.member)
        (λ other. ap (λ (x : List ℕ). number_at 4 52 x / 512) (header_elsewhere a m d.content e.content (has d e before after) block low_of_member (outside d e before after) other) ∙ was)

    pub read_marked : (failed_at : ℕ) (is_spoiled : Bool) → IsReadAsKept a m failed_at is_spoiled d.content → IsReadAsKept a m failed_at is_spoiled e.content
    read_marked failed_at is_spoiled = stays a m failed_at is_spoiled d.content e.content
        (same_block d e before after)
        (log_beside_marks a m d.content e.content (has d e before after) block low_of_member (outside d e before after))
        width_marked

  pub store_marks_happens : Happens old (Event.StoreMarks k block) new
  store_marks_happens honest requests in_flight =
      let within = slice_get_within a.members k m r.may.in_sync.member in
      let as_many = is.fits.as_many in
      let many = r.disks.tried.as_many in
      let d = got_within old.disks k (omega arith) in
      let e = got_within new.disks k (omega arith) in
      let happens = step d.0 e.0 d.1 e.1 (honest k d.0 d.1) requests in
      record {
        honest = tried_honest k r.write old.disks new.disks r.disks.tried honest;
        writes = (r.write, ap (λ (x : Write). length x.bytes) r.may.write.is ∙ length-bitmap_sector r.may.write.header a.marks block, r.disks);
        in_flight = changed_in_flight k m n r.write old new changes requests in_flight;
        geometry = ap geometry_of r.array;
        step = happens;
        content = λ x y holds becomes. between_step (geometry_of a) (world_of old requests) (Event.StoreMarks k block) (world_of new requests) x y happens becomes holds;
        written = in_flight_step (geometry_of a) (world_of old requests) (Event.StoreMarks k block) (world_of new requests) happens;
        sound = marks_stored_is_consistent;
        lists = tt;
        read = λ failed_at spoiled. changed_read k m n r.write old new failed_at spoiled spoiled changes (λ j apart. refl)
            (λ d' e' before after. read_marked d' e' before after (honest k d' before) requests failed_at (spoiled k));
      }
