-- The log of a member in sync is stored: the mirror stays consistent, and that is the model's event.
use Rattle.std.proofs.Common.{◌≡◌, ℕ, ◌*◌, ◌/◌, ◌↔◌, inl, inr, Bool, true, false, true≢false, not, ◌&&◌, ◌||◌, ◌==◌, bit_and, eqb-true, if◌then◌else◌, nat_lt, List, [], ◌∷◌, ◌++◌, length, get_or, map, set, ◌<◌, slice_get, Option, Some, pos, refl, sym, ap, ◌∙◌, subst, arith}
use Rattle.std.proofs.lemmas.Bool.{and_from, and_parts}
use Rattle.std.proofs.lemmas.List.{map-set}
use Rattle.std.proofs.lemmas.Option.{same_Some, slice_get_within}
use Rattle.md_assembly.specs.States.{has_recovery_offset}
use Rattle.md_assembly.proofs.Indices.{got_within}
use Rattle.md_badblocks.specs.declared.run.Run.{Run}
use Rattle.md_badblocks.specs.Log.{log_bytes}
use Rattle.md_badblocks.specs.Runs.{IsBad, IsCanonical}
use Rattle.md_bitmap.specs.Marks.{is_set}
use Rattle.md_device.specs.Splice.{part, SameOutside}
use Rattle.md_device.specs.declared.device.Device.{Ghosts}
use Rattle.md_device.proofs.Splices.{part-spliced}
use Rattle.md_format.specs.Fields.{number_at}
use Rattle.md_kept_members.specs.Enrolling.{HasRoomFor, log_room, logged_superblock}
use Rattle.md_kept_members.specs.View.{MemberView}
use Rattle.md_members.specs.Areas.{BitmapIsPlaced, AreAreasPlaced, LogIsPlaced, log_area}
use Rattle.md_model.specs.Devices.{Stored}
use Rattle.md_model.specs.Events.{Event, MemberPart, Step}
use Rattle.md_model.specs.Failures.{LeftByLog}
use Rattle.md_model.specs.Listing.{log_stored}
use Rattle.md_model.specs.Sectors.{put}
use Rattle.md_model.specs.Steps.{GrowsTo}
use Rattle.md_model.specs.Worlds.{Request, World}
use Rattle.md_model.proofs.Cases.{by_test}
use Rattle.md_model.proofs.Puts.{put-hit, put-miss, put-self}
use Rattle.md_model.proofs.Steps.Between.{between_step, in_flight_step}
use Rattle.md_inflight.specs.Requests.Pending.{PendingView}
use Rattle.md_faults.specs.declared.step_fault.StoreFault.{StoreFault}
use Rattle.md_faults.specs.declared.step_fault.StoreFault.TheVariants.{Halted, NotActive, MemberFailed}
use Rattle.md_kept_members.specs.OnDevices.Storing.{log_writes, sector_from_super}
use Rattle.md_kept_members.proofs.OnDeviceLemmas.Beside.{sector_at_is}
use Rattle.md_state.specs.DiskWrites.{IsFailed, IsTried, IsWritten}
use Rattle.md_state.specs.Steps.Fail.{AnswersStore}
use Rattle.md_state.specs.Members.{IsInSync, IsMember}
use Rattle.md_state.specs.Steps.StoreLog.{logged}
use Rattle.md_state.specs.Requests.{IsPending}
use Rattle.md_state.specs.View.{ArrayView, Disk, MirrorView, disk_of, geometry_of}
use Rattle.md_super.specs.declared.superblock.Superblock.{Superblock}
use Rattle.md_super.specs.Log.{has_bad_block_log}
use Rattle.md_members.specs.DeviceWrites.Writes.{DoesWrites, FailsInWrites, Write}
use Rattle.md_array.specs.Consistency.{HasPlaces, HasSuper, IsConsistent}
use Rattle.md_array.specs.Events.{Happens, listed_on}
use Rattle.md_array.specs.Steps.StoreLog.{AreWritten, FailsToStoreLog, IfLogFailed, RefusesStoreLog, StoresLog}
use Rattle.md_array.specs.ReadAsKept.{AreReadAsKept, HasOwnSuper, IsReadAsKept, has_shift}
use Rattle.md_array.specs.Worlds.{block_on, header_on, is_listed, is_listed_next, is_logged, list_bit, lists_of, reads_log_on, stored_of, stored_on, super_in, world_of, world_on}
use Rattle.md_array.proofs.General.Honesty.{tried_honest}
use Rattle.md_array.proofs.General.Indices.{at_set_same, set_itself}
use Rattle.md_array.proofs.General.Replaced.{of_set}
use Rattle.md_array.proofs.Openings.OwnFields as own_fields
use Rattle.md_array.proofs.Rebuilding.LogListed.{listed_logged, named_bad}
use Rattle.md_array.proofs.Rebuilding.MemberStored.{log_long}
use Rattle.md_array.proofs.Rebuilding.OffsetMoved.{nothing, untried}
use Rattle.md_array.proofs.StepLemmas.AfterFailure.{failed_is_consistent, failed_is_pending, halted_is_consistent, halted_is_pending}
use Rattle.md_array.proofs.StepLemmas.ListGrown.{grows_by}
use Rattle.md_array.proofs.StepLemmas.OneMember.{ChangesOwn, IsNear, member_there, own_in_flight, own_is_consistent, own_is_pending, own_world, stored_there}
use Rattle.md_array.proofs.StepLemmas.OneWrite.{here, is_failed, is_written}
use Rattle.md_array.proofs.StepLemmas.StoresKeep.{refused_is_consistent, refused_is_pending}
use Rattle.md_array.proofs.Worlds.Device.{fits_on}
use Rattle.md_array.proofs.Worlds.Failed.{IsThere, does_failing, left, member_fails, there_is}
use Rattle.md_array.proofs.Worlds.InSync.{in_sync_there}
use Rattle.md_array.proofs.Worlds.Listed.{listed_alike}
use Rattle.md_array.proofs.Worlds.PartsApart.{HasParts, block_beside_log, header_beside_log, log_alone, parts_of}
use Rattle.md_array.proofs.Openings.ListTold.{told_logged}
use Rattle.md_array.proofs.Worlds.ReadAsKept.{super_was}
use Rattle.md_array.proofs.Worlds.States.{in_sync_recorded}

-- ---- its superblock places its parts where they were
module _ (bad : List Run) (v : Superblock) where
  log_then : (sectors : ℕ) → LogIsPlaced sectors v → LogIsPlaced sectors (logged_superblock bad v)
  log_then sectors p = record { short = p.short; within = p.within; from_super = p.from_super; from_data = p.from_data }

  bitmap_then : (sectors width : ℕ) → BitmapIsPlaced sectors v width → BitmapIsPlaced sectors (logged_superblock bad v) width
  bitmap_then sectors width p = record { within = p.within; from_super = p.from_super; from_data = p.from_data; from_log = p.from_log }

  placed_then : (sectors width : ℕ) → AreAreasPlaced sectors v width → AreAreasPlaced sectors (logged_superblock bad v) width
  placed_then sectors width p = record {
    some_size = p.some_size;
    data_holds = p.data_holds;
    data_within = p.data_within;
    data_apart = p.data_apart;
    log = λ has. log_then sectors (p.log has);
    bitmap = λ has. bitmap_then sectors width (p.bitmap (sym (own_fields.bitmap_same bad v) ∙ has));
  }

near_logged : (m : MemberView) → IsNear m (logged m)
near_logged m = record {
  places = record { number = refl; size = refl; has = own_fields.bitmap_same m.bad m.superblock; placed = placed_then m.bad m.superblock; header = refl; chunks = refl; told = λ tells rebuilt sector bad. told_logged m.bad m.superblock sector bad (tells rebuilt sector bad) };
  state = refl;
}

-- what is written of a member's log
abbrev pub log_of : MemberView → Write
log_of m = record { sector = sector_from_super m.superblock.bblog_offset; bytes = log_bytes m.bad (log_room m.superblock) }

-- ---- what the device has of its log then, whose bit 8 is as before
module _ (a : ArrayView) (m : MemberView) (old new : List ℕ) (block : block_on new ≡ block_on old) where
  -- an opening reads as it did of another log, if that has the shift that is told of
  pub own_beside : (own : Superblock) → own.data_offset ≡ m.superblock.data_offset → own.bitmap_offset ≡ m.superblock.bitmap_offset
      → own.bblog_size ≡ m.superblock.bblog_size → own.bblog_offset ≡ m.superblock.bblog_offset → m.superblock.bblog_shift ≡ own.bblog_shift
      → HasOwnSuper a.shared m.superblock old → HasOwnSuper a.shared own new
  own_beside own start bitmap size offset shift has v on =
      let was = has v (super_was old new v block on) in
      record {
        set_uuid = was.set_uuid;
        size = was.size;
        raid_disks = was.raid_disks;
        data_offset = was.data_offset ∙ sym start;
        bitmap_offset = was.bitmap_offset ∙ sym bitmap;
        bblog_size = was.bblog_size ∙ sym size;
        bblog_offset = was.bblog_offset ∙ sym offset;
        bblog_shift = λ reads. was.bblog_shift reads ∙ shift;
        listed = listed_alike own v new on.fields on.sound (was.bblog_size ∙ sym size) (was.bblog_offset ∙ sym offset) (λ reads. was.bblog_shift reads ∙ shift);
        no_newer = was.no_newer;
      }

module _ (k : ℕ) (old new : MirrorView) (c : IsConsistent old) (r : StoresLog k old new) (canonical : IsCanonical r.member.bad) where
  abbrev a : ArrayView
  a = old.array

  abbrev m : MemberView
  m = r.member

  abbrev own : Superblock
  own = m.superblock

  abbrev n : MemberView
  n = logged m

  abbrev has : Bool
  has = has_bad_block_log own

  abbrev first : ℕ
  first = sector_from_super own.bitmap_offset

  at : IsMember a k m
  at = r.in_sync.member

  written : has ≡ true → IsWritten k (log_of m) old.disks new.disks
  written there = (subst (λ (ws : List Write). AreWritten k ws old.disks new.disks) (ap (λ (b : Bool). if b then log_of m ∷ [] else []) there) r.disks).1

  same_disks : has ≡ false → new.disks ≡ old.disks
  same_disks none = subst (λ (ws : List Write). AreWritten k ws old.disks new.disks) (ap (λ (b : Bool). if b then log_of m ∷ [] else []) none) r.disks

  write : (w : Write) × IsTried k w old.disks new.disks
  write = by_test has
      (λ there. (log_of m, (written there).tried))
      (λ none. (nothing, subst (λ (xs : List Disk). IsTried k nothing old.disks xs) (sym (same_disks none)) (untried k old.disks)))

  changes : ChangesOwn k m n write.0 old new
  changes = record { at = at; near = near_logged m; disks = write.1; array = r.array }

  -- ---- its device
  module _ (d e : Disk) (was : slice_get old.disks k ≡ Some d) (is : slice_get new.disks k ≡ Some e) where
    parts : HasParts a m d.content
    parts = parts_of old c k d m was at

    same_device : has ≡ false → e ≡ d
    same_device none = same_Some e d (sym is ∙ ap (λ (xs : List Disk). slice_get xs k) (same_disks none) ∙ was)

    outside : has ≡ true → SameOutside (512 * sector_from_super own.bblog_offset) (512 * own.bblog_size) d.content e.content
    outside there = subst (λ (x : ℕ). SameOutside (512 * sector_from_super own.bblog_offset) x d.content e.content) (log_long m r.room there) ((written there).tried.outside d e was is)

    block_same : block_on e.content ≡ block_on d.content
    block_same = by_test has
        (λ there. block_beside_log a m d.content e.content parts there (outside there))
        (λ none. ap (λ (x : Disk). block_on x.content) (same_device none))

    header_same : header_on e.content first ≡ header_on d.content first
    header_same = by_test has
        (λ there. header_beside_log a m d.content e.content parts there (outside there))
        (λ none. ap (λ (x : Disk). header_on x.content first) (same_device none))

    alone : stored_of a m e.content ≡ record (stored_of a m d.content) { listed = (stored_of a m e.content).listed }
    alone = by_test has
        (λ there. log_alone a m d.content e.content parts there (outside there))
        (λ none. λ i. record (stored_of a m (same_device none i).content) { listed = (stored_of a m e.content).listed })

    -- an opening reads what is kept, if the log had no shift
    read_logged : (failed_at : ℕ) (before after : Bool) → (after ≡ false → (own.bblog_shift ≡ 0) × (before ≡ false)) → IsReadAsKept a m failed_at before d.content → IsReadAsKept a n failed_at after e.content
    read_logged failed_at before after reads had = record {
      super = λ un. own_beside a m d.content e.content block_same n.superblock refl refl refl refl (reads un).0 (had.super (reads un).1);
      header = λ un. elim (had.header un) [
        | inl width ↦ inl (ap (λ (h : List ℕ). number_at 4 52 h / 512) header_same ∙ width)
        | inr gone ↦ absurd (true≢false (sym (in_sync_recorded m.state r.in_sync.in_sync) ∙ gone.0))
      ];
    }

    -- where the device does what it answers, its log lists the member's list
    module _ (honest : d.honest ≡ true) where
      log_there : has ≡ true → part e.content (512 * sector_from_super own.bblog_offset) (512 * own.bblog_size) ≡ log_bytes m.bad (log_room own)
      log_there there =
          let log = parts.placed.log there in
          let start : (log_area own).start ≡ pos (sector_from_super own.bblog_offset) = sector_at_is (log_area own).start log.within.from in
          let fits = fits_on (log_area own).start (sector_from_super own.bblog_offset) own.bblog_size (length d.content) (sym start) log.within.to in
          ap (λ (xs : List ℕ). part xs (512 * sector_from_super own.bblog_offset) (512 * own.bblog_size)) ((written there).done d e was is honest)
          ∙ part-spliced d.content (512 * sector_from_super own.bblog_offset) (log_bytes m.bad (log_room own)) (512 * own.bblog_size) (sym (log_long m r.room there)) (omega (arith, fits))

      next_is : (sector : ℕ) → is_listed_next n.superblock e.content sector ≡ true ↔ IsBad m.bad sector
      next_is sector = listed_logged own m.bad e.content canonical r.room log_there sector

      listed_is_bad : (sector : ℕ) → is_listed n.superblock e.content sector ≡ true → IsBad m.bad sector
      unfolding is_listed
      listed_is_bad sector on =
          let parts = and_parts (reads_log_on n.superblock e.content) (is_logged e.content (sector_from_super own.bblog_offset) own.bblog_size 0 sector) on in
          let there : has ≡ true = (and_parts (list_bit n.superblock (block_on e.content) (super_in (block_on e.content))) has parts.0).1 in
          (named_bad own m.bad e.content canonical (log_there there) sector).0 parts.1

      has_super : HasSuper m d → HasSuper n e
      has_super had = record {
        super = had.super;
        is = ap super_in block_same ∙ had.is;
        number = had.number;
        recovering = had.recovering ∙ sym (own_fields.recovery_same m.bad own);
        places = subst (HasPlaces n) (sym block_same) (record {
          data_offset = had.places.data_offset;
          bitmap_offset = had.places.bitmap_offset;
          bblog_size = had.places.bblog_size;
          bblog_offset = had.places.bblog_offset;
        });
        listed = λ sector on. (next_is sector).1 (listed_is_bad sector on);
        known = λ sector on. (next_is sector).0 on;
      }

      -- bit 8 is that of the superblock that stands there
      same_bit : HasSuper m d → list_bit n.superblock (block_on e.content) (super_in (block_on e.content)) ≡ list_bit own (block_on d.content) (super_in (block_on d.content))
      same_bit had =
          ap (list_bit n.superblock (block_on e.content)) (ap super_in block_same ∙ had.is)
          ∙ ap (λ (b : List ℕ). not (bit_and (number_at 4 8 b) 8 == 0)) block_same
          ∙ sym (ap (list_bit own (block_on d.content)) had.is)

      was_read : (sector : ℕ) → is_listed own d.content sector ≡ true → reads_log_on own d.content ≡ true
      unfolding is_listed
      was_read sector on = (and_parts (reads_log_on own d.content) (is_logged d.content (sector_from_super own.bblog_offset) own.bblog_size own.bblog_shift sector) on).0

      listed_now : HasSuper m d → (sector : ℕ) → reads_log_on own d.content ≡ true → IsBad m.bad sector → is_listed n.superblock e.content sector ≡ true
      unfolding is_listed
      listed_now had sector reads bad =
          let bits = and_parts (list_bit own (block_on d.content) (super_in (block_on d.content))) has reads in
          and_from (reads_log_on n.superblock e.content) (is_logged e.content (sector_from_super own.bblog_offset) own.bblog_size 0 sector)
          (and_from (list_bit n.superblock (block_on e.content) (super_in (block_on e.content))) has (same_bit had ∙ bits.0) bits.1)
          ((named_bad own m.bad e.content canonical (log_there bits.1) sector).1 bad)

      -- so what was listed there still is
      still_listed : HasSuper m d → (sector : ℕ) → is_listed own d.content sector ≡ true → is_listed n.superblock e.content sector ≡ true
      still_listed had sector on = listed_now had sector (was_read sector on) (had.known sector (had.listed sector on))

      -- ---- its world
      module _ (requests : ℕ → Option Request) where
        abbrev w : World
        w = world_of old requests

        abbrev listed : ℕ → Bool
        listed = (stored_of a n e.content).listed

        grows : GrowsTo w k listed
        grows =
            let had = c.supers r.running k d m was at r.in_sync.in_sync honest in
            grows_by old.disks a requests k m d at was (is_listed n.superblock e.content) (still_listed had) listed_is_bad

        stored_is : stored_of a n e.content ≡ record (w.stored k) { listed = listed }
        stored_is = (λ i. record (alone i) { listed = listed }) ∙ ap (λ (x : Stored). record x { listed = listed }) (sym (stored_there old.disks a k m d at was))

        world_logged : world_of new requests ≡ log_stored w k listed
        world_logged =
            let known : put k (λ s. nat_lt s a.marks.chunks && is_set m.stored.bytes s) w.known ≡ w.known =
            ap (λ (f : ℕ → Bool). put k f w.known) (λ i s. sym (member_there a k m false (λ x. nat_lt s a.marks.chunks && is_set x.stored.bytes s) at) i) ∙ put-self k w.known in
            let bad : put k (lists_of a n) w.bad ≡ w.bad =
            ap (λ (f : ℕ → Bool). put k f w.bad) (λ i s. sym (member_there a k m false (λ x. lists_of a x s) at) i) ∙ put-self k w.bad in
            let offset : put k m.offset w.offset ≡ w.offset = ap (λ o. put k o w.offset) (sym (member_there a k m 0 (λ x. x.offset) at)) ∙ put-self k w.offset in
            let sure : put k own.recovery_offset w.sure_offset ≡ w.sure_offset =
            ap (λ o. put k o w.sure_offset) (sym (member_there a k m 0 (λ x. x.superblock.recovery_offset) at)) ∙ put-self k w.sure_offset in
            let told : put k m.stored_offset w.stored_offset ≡ w.stored_offset =
            ap (λ o. put k o w.stored_offset) (sym (member_there a k m 0 (λ x. x.stored_offset) at)) ∙ put-self k w.stored_offset in
            let recovering : put k (has_recovery_offset n.superblock) w.recovering ≡ w.recovering =
            ap (λ b. put k b w.recovering) (own_fields.recovery_same m.bad own ∙ sym (member_there a k m false (λ x. has_recovery_offset x.superblock) at)) ∙ put-self k w.recovering in
            own_world k m n write.0 old new changes e is requests
            ∙ (λ i. record w { stored = put k (stored_is i) w.stored; due = put k true w.due; known = known i; bad = bad i; offset = offset i; sure_offset = sure i; stored_offset = told i; recovering = recovering i })

        same_listed : listed_on new k ≡ listed
        same_listed =
            let b : ArrayView = record a { members = set a.members k n } in
            ap (λ (x : ArrayView). (stored_on x (slice_get x.members k) (slice_get new.disks k)).listed) r.array
            ∙ ap (λ (o : Option MemberView). (stored_on b o (slice_get new.disks k)).listed) (at_set_same a.members k n (slice_get_within a.members k m at))
            ∙ ap (λ (o : Option Disk). (stored_on b (Some n) o).listed) is

        log_step : Step (geometry_of a) w (Event.StoreLog k (listed_on new k)) (world_of new requests)
        log_step = subst (λ (l : ℕ → Bool). Step (geometry_of a) w (Event.StoreLog k l) (world_of new requests)) (sym same_listed)
            (r.running, (in_sync_there old.disks a requests k m r.in_sync, grows, world_logged))

  pub logged_is_consistent : IsConsistent new
  logged_is_consistent = own_is_consistent k m n write.0 old new changes c (λ d e was is _ honest had. has_super d e was is honest had)

  pub logged_is_pending : (p : PendingView) → IsPending old.array p → IsPending new.array p
  logged_is_pending = own_is_pending k m n write.0 old new changes

  -- of a log that had a shift the member is one that an opening misreads
  had_none : has_shift a k ≡ false → own.bblog_shift ≡ 0
  had_none none = by_test (own.bblog_shift == 0) (eqb-true own.bblog_shift 0)
      (λ some. absurd (true≢false (sym (ap not some) ∙ sym (member_there a k m false (λ x. not (x.superblock.bblog_shift == 0)) at) ∙ none)))

  reads_now : (before : Bool) → (has_shift a k || before) ≡ false → (own.bblog_shift ≡ 0) × (before ≡ false)
  reads_now before reads = by_test (has_shift a k)
      (λ some. absurd (true≢false (sym (ap (λ (b : Bool). b || before) some) ∙ reads)))
      (λ none. (had_none none, sym (ap (λ (b : Bool). b || before) none) ∙ reads))

  read_all : (failed_at : ℕ) (misread : ℕ → Bool) → AreReadAsKept old failed_at misread → AreReadAsKept new failed_at (put k (has_shift a k || misread k) misread)
  read_all failed_at misread are j e x found member =
      let inside = slice_get_within a.members k m at in
      let many = c.fits.as_many in
      let d = got_within old.disks k (omega arith) in
      let after = put k (has_shift a k || misread k) misread in
      subst (λ (v : ArrayView). IsReadAsKept v x failed_at (after j) e.content) (sym r.array)
      (of_set a.members k j n x (ap (λ (v : ArrayView). slice_get v.members j) (sym r.array) ∙ member)
      (λ here x_is.
      let is : slice_get new.disks k ≡ Some e = ap (slice_get new.disks) (sym here) ∙ found in
      let had = read_logged d.0 e d.1 is failed_at (misread k) (after j) (λ reads. reads_now (misread k) (sym (ap after here ∙ put-hit k (has_shift a k || misread k) misread) ∙ reads)) (are k d.0 m d.1 at) in
      subst (λ (z : MemberView). IsReadAsKept (record a { members = set a.members k n }) z failed_at (after j) e.content) (sym x_is) (record { super = had.super; header = had.header }))
      (λ apart there.
      let had = subst (λ b. IsReadAsKept a x failed_at b e.content) (sym (put-miss k (has_shift a k || misread k) misread j apart)) (are j e x (sym (changes.disks.others j apart) ∙ found) there) in
      record { super = had.super; header = had.header }))

  pub log_happens : Happens old (Event.StoreLog k (listed_on new k)) new
  log_happens honest requests in_flight =
      let t = there_is old k m write.0 new.disks c at write.1 in
      let event : Event = Event.StoreLog k (listed_on new k) in
      let happens = log_step t.old t.new t.was t.is (honest k t.old t.was) requests in
      record {
        honest = tried_honest k write.0 old.disks new.disks write.1 honest;
        writes = by_test has (λ there. inr (log_of m, written there)) (λ none. inl (same_disks none));
        in_flight = own_in_flight k m n write.0 old new changes requests in_flight;
        geometry = ap geometry_of r.array;
        step = happens;
        content = λ x y holds becomes. between_step (geometry_of a) (world_of old requests) event (world_of new requests) x y happens becomes holds;
        written = in_flight_step (geometry_of a) (world_of old requests) event (world_of new requests) happens;
        sound = logged_is_consistent;
        lists = tt;
        read = read_all;
      }

-- ---- its write fails, and the member is faulty
empty_is : (w : Write) → ◌≡◌ {A = List Write} [] (w ∷ []) → ⊥
empty_is w e = cc

abbrev first_of : Write → List Write → Write
first_of w [] = w
first_of w (x ∷ xs) = x

-- a list with a write is that of the log
pub is_log : (m : MemberView) (w : Write) → log_writes m.superblock m.bad ≡ w ∷ [] → (has_bad_block_log m.superblock ≡ true) × (w ≡ log_of m)
is_log m w among = by_test (has_bad_block_log m.superblock)
    (λ there. (there, ap (first_of w) (sym among ∙ ap (λ (b : Bool). if b then log_of m ∷ [] else []) there)))
    (λ none. absurd (empty_is w (sym (ap (λ (b : Bool). if b then log_of m ∷ [] else []) none) ∙ among)))

module _ (k : ℕ) (old new : MirrorView) (c : IsConsistent old) (f : FailsToStoreLog k old new) where
  abbrev v : ArrayView
  v = old.array

  abbrev x : MemberView
  x = f.member

  abbrev u : Write
  u = f.write

  x_at : IsMember v k x
  x_at = f.in_sync.member

  has_log : has_bad_block_log x.superblock ≡ true
  has_log = (is_log x u f.among).0

  beside_log : (d e : Disk) → slice_get old.disks k ≡ Some d → slice_get new.disks k ≡ Some e
      → SameOutside (512 * sector_from_super x.superblock.bblog_offset) (512 * x.superblock.bblog_size) d.content e.content
  beside_log d e was is =
      subst (λ (n : ℕ). SameOutside (512 * sector_from_super x.superblock.bblog_offset) n d.content e.content) (log_long x f.room has_log)
      (subst (λ (z : Write). SameOutside (512 * z.sector) (length z.bytes) d.content e.content) (is_log x u f.among).1 (f.fails.disks.tried.outside d e was is))

  left_by_log : (requests : ℕ → Option Request) (t : IsThere k old.disks new.disks) → LeftByLog (world_of old requests) k (left k u old new c f.fails x x_at requests)
  left_by_log requests t =
      let was : (world_of old requests).stored k ≡ stored_of v x t.old.content = stored_there old.disks v k x t.old x_at t.was in
      let is : (world_on new.disks v requests).stored k ≡ stored_of v x t.new.content = stored_there new.disks v k x t.new x_at t.is in
      let has = parts_of old c k t.old x t.was x_at in
      let beside = beside_log t.old t.new t.was t.is in
      let super_is = ap (λ (s : Stored). s.super) is ∙ ap super_in (block_beside_log v x t.old.content t.new.content has has_log beside) in
      let listed_is = ap (λ (s : Stored). s.listed) is in
      record {
        rest = is ∙ log_alone v x t.old.content t.new.content has has_log beside ∙ (λ i. record (sym was i) { super = sym super_is i; listed = sym listed_is i });
        super = inl (super_is ∙ sym (ap (λ (s : Stored). s.super) was));
      }

  pub store_log_fails_happens : Happens old (Event.WriteFails k MemberPart.Log) new
  store_log_fails_happens honest requests in_flight =
      let t = there_is old k x u new.disks c x_at f.fails.disks.tried in
      does_failing k u old new c f.fails x x_at requests (Event.WriteFails k MemberPart.Log) honest (u, f.fails.disks) in_flight
      (f.running, (left k u old new c f.fails x x_at requests, (in_sync_there old.disks v requests k x f.in_sync, left_by_log requests t), member_fails k u old new c f.fails x x_at requests (in_sync_recorded x.state f.in_sync.in_sync)))
      tt (λ _. refl) (λ _. refl)
      (λ d e was is. own_beside v x d.content e.content (block_beside_log v x d.content e.content (parts_of old c k d x was x_at) has_log (beside_log d e was is)) x.superblock refl refl refl refl refl)

-- ---- all of the refusals
module _ (k : ℕ) (old new : MirrorView) (c : IsConsistent old) where
  pub log_refused_is_consistent : (f : StoreFault) → RefusesStoreLog k old new f → IsConsistent new
  log_refused_is_consistent Halted (inl r) = refused_is_consistent old new c r
  log_refused_is_consistent Halted (inr h) = halted_is_consistent k h.write old new c h.halts
  log_refused_is_consistent NotActive r = absurd r
  log_refused_is_consistent (MemberFailed j) r = failed_is_consistent k r.1.write old new c r.1.fails

  pub log_refused_is_pending : (f : StoreFault) → RefusesStoreLog k old new f → (p : PendingView) → IsPending old.array p → IsPending new.array p
  log_refused_is_pending Halted (inl r) p = refused_is_pending old new c r p
  log_refused_is_pending Halted (inr h) p = halted_is_pending k old.array new.array p h.halts.array
  log_refused_is_pending NotActive r p = absurd r
  log_refused_is_pending (MemberFailed j) r p = failed_is_pending k old.array new.array p r.1.fails.array

  pub log_refused_happens : (f : StoreFault) → RefusesStoreLog k old new f → IfLogFailed (Happens old (Event.WriteFails k MemberPart.Log) new) f
  log_refused_happens Halted r = tt
  log_refused_happens NotActive r = tt
  log_refused_happens (MemberFailed j) r = store_log_fails_happens k old new c r.1

pub log_failed : (k : ℕ) (old new : MirrorView) (m : MemberView) (fault : StoreFault) → old.array.halted ≡ false → IsInSync old.array k m → IsCanonical m.bad → HasRoomFor m.superblock m.bad → has_bad_block_log m.superblock ≡ true
    → IsFailed k (log_of m) old.disks new.disks → AnswersStore k old.array new.array fault → RefusesStoreLog k old new fault
log_failed k old new m Halted running in_sync canonical room there disks halts =
    inr (record { running = running; member = m; in_sync = in_sync; canonical = canonical; room = room; write = log_of m; among = ap (λ (b : Bool). if b then log_of m ∷ [] else []) there; halts = record { disks = disks; array = halts } })
log_failed k old new m NotActive running in_sync canonical room there disks never = absurd never
log_failed k old new m (MemberFailed j) running in_sync canonical room there disks fails =
    (fails.0, record { running = running; member = m; in_sync = in_sync; room = room; write = log_of m; among = ap (λ (b : Bool). if b then log_of m ∷ [] else []) there; fails = record { disks = disks; array = fails.1 } })

-- ---- what was written, by what the call tells
none_done : (done : List Write) (w : Write) (rest : List Write) → ◌≡◌ {A = List Write} [] (done ++ w ∷ rest) → ⊥
none_done [] w rest e = cc
none_done (x ∷ xs) w rest e = cc

module _ {D : Type 0} (g : Ghosts D) (devices : List D) (k : ℕ) (was : D) (read : was ≡ get_or devices k was) (new : D) (within : k < length devices) (m : MemberView) (room : HasRoomFor m.superblock m.bad)
    (outside : has_bad_block_log m.superblock ≡ true → SameOutside (512 * sector_from_super m.superblock.bblog_offset) (512 * m.superblock.bblog_size) (g.content was) (g.content new))
    (untouched : has_bad_block_log m.superblock ≡ false → new ≡ was) where
  abbrev before : List Disk
  before = map (disk_of g) devices

  abbrev after : List Disk
  after = map (disk_of g) (set devices k new)

  one : has_bad_block_log m.superblock ≡ true → log_writes m.superblock m.bad ≡ log_of m ∷ []
  one there = ap (λ (b : Bool). if b then log_of m ∷ [] else []) there

  no_write : has_bad_block_log m.superblock ≡ false → log_writes m.superblock m.bad ≡ []
  no_write lacks = ap (λ (b : Bool). if b then log_of m ∷ [] else []) lacks

  beside : has_bad_block_log m.superblock ≡ true → SameOutside (512 * sector_from_super m.superblock.bblog_offset) (length (log_bytes m.bad (log_room m.superblock))) (g.content was) (g.content new)
  beside there = subst (λ (n : ℕ). SameOutside (512 * sector_from_super m.superblock.bblog_offset) n (g.content was) (g.content new)) (sym (log_long m room there)) (outside there)

  pub are_written : DoesWrites g (log_writes m.superblock m.bad) was new → AreWritten k (log_writes m.superblock m.bad) before after
  are_written does = by_test (has_bad_block_log m.superblock)
      (λ there. subst (λ (ws : List Write). AreWritten k ws before after) (sym (one there))
      (refl, is_written g devices k was read new (log_of m) within (beside there) (subst (λ (ws : List Write). DoesWrites g ws was new) (one there) does)))
      (λ lacks. subst (λ (ws : List Write). AreWritten k ws before after) (sym (no_write lacks))
      (rw (map-set (disk_of g) devices k new) (ap (λ (x : D). set before k (disk_of g x)) (untouched lacks) ∙ set_itself before k (disk_of g was) (here g devices k was read within))))

  pub is_unwritten : FailsInWrites g (log_writes m.superblock m.bad) was new → (has_bad_block_log m.superblock ≡ true) × IsFailed k (log_of m) before after
  is_unwritten fails = by_test (has_bad_block_log m.superblock)
      (λ there. (there, is_failed g devices k was read new (log_of m) within (beside there) (subst (λ (ws : List Write). FailsInWrites g ws was new) (one there) fails)))
      (λ lacks. absurd (none_done fails.done fails.tried fails.rest (sym (no_write lacks) ∙ fails.order)))
