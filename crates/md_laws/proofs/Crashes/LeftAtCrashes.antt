-- What a crash leaves within a call is what one leaves between two calls, or in the midst of a write of data.
use Rattle.std.proofs.Common.{◌≡◌, ◌≢◌, ℕ, ◌+◌, ◌*◌, ◌/◌, ◌<◌, ◌≤◌, ◌⊎◌, inl, inr, Bool, true, false, cond, eqb, true≢false, List, [], ◌∷◌, length, set, slice_get, Option, Some, None, refl, sym, ap, ◌∙◌, subst, arith, length-set}
use Rattle.std.proofs.lemmas.List.{length_push}
use Rattle.std.proofs.lemmas.Option.{same_Some, slice_get_within}
use Rattle.md_device.specs.Device.{written}
use Rattle.md_device.specs.Splice.{SameOutside}
use Rattle.md_device.proofs.Leaving.{leaves_none}
use Rattle.md_device.proofs.Splices.{part-spliced, spliced_outside}
use Rattle.md_format.specs.Fields.{number_at}
use Rattle.md_members.specs.Areas.{BitmapIsPlaced, AreAreasPlaced, bitmap_sectors}
use Rattle.md_members.specs.Members.{sectors_of_device}
use Rattle.md_bitmap.proofs.Blocks.{length-bitmap_sector}
use Rattle.md_members.specs.DeviceWrites.Writes.{IsCutShort, Write}
use Rattle.md_model.specs.Content.{Becomes, Content}
use Rattle.md_model.specs.Devices.{Stored, Super}
use Rattle.md_model.specs.Events.{Event}
use Rattle.md_model.specs.Recovering.{JoinsBehind}
use Rattle.md_model.specs.Runs.{spoiled_after}
use Rattle.md_model.specs.Sectors.{block_of}
use Rattle.md_model.specs.Steps as model_steps
use Rattle.md_model.specs.Crashes as crashes
use Rattle.md_model.specs.Worlds.{World}
use Rattle.md_model.proofs.Cases.{by_test, none_some}
use Rattle.md_model.proofs.Puts.{by_same, put-at, put-miss}
use Rattle.md_inflight.specs.Requests.Pending.{request_sectors}
use Rattle.md_assembly.specs.States.{is_recorded}
use Rattle.md_assembly.proofs.Indices.{got_within, got_same}
use Rattle.md_kept_members.specs.Members.{recorded_member}
use Rattle.md_state.specs.Steps.Checkpoint.{checked, with_member_at}
use Rattle.md_kept_members.specs.TakingBack.{admitted_member}
use Rattle.md_kept_members.specs.View.{MemberView}
use Rattle.md_state.specs.View.{ArrayView, Disk, MirrorView, geometry_of}
use Rattle.md_state.specs.Members.{IsMember}
use Rattle.md_state.specs.DeviceChanges.{LeavesOn, StaysHonest}
use Rattle.md_state.specs.Requests.{among, request_of}
use Rattle.md_state.specs.DiskWrites.{IsFailed, IsTried, IsWritten}
use Rattle.md_state.specs.Steps.StoreMarks.{StoresMarkSector}
use Rattle.md_state.specs.Steps.WriteMember.{MayWrite, data_write}
use Rattle.md_array.specs.Steps.EnrolEvents.{Prepares}
use Rattle.md_array.specs.Events.{Does}
use Rattle.md_array.specs.Steps.Fill.{Fills}
use Rattle.md_array.specs.ReadAsKept.{HasOwnSuper, IsReadAsKept}
use Rattle.md_array.specs.Steps.Record.{MayRecord, Records, super_write}
use Rattle.md_array.specs.Worlds.{block_on, is_listed, stored_of, stored_on, super_in, super_of, world_of}
use Rattle.md_array.proofs.Rebuilding.FilledEvent.{fill_happens}
use Rattle.md_array.proofs.Rebuilding.PreparedEvent.{prepare_happens}
use Rattle.md_array.proofs.StepLemmas.InFlight.{not_touched}
use Rattle.md_array.proofs.StepLemmas.StoreMarks.{read_marked, store_marks_happens}
use Rattle.md_array.proofs.StepLemmas.OneMember.{stored_there}
use Rattle.md_array.proofs.Worlds.Listed.{IsLogKept, listed_same_bit}
use Rattle.md_array.proofs.Worlds.PartsApart.{HasParts, data_alone, data_elsewhere, header_beside_super, log_beside_super, parts_of, super_alone}
use Rattle.md_array.proofs.Worlds.ReadAsKept.{own_stays_as, own_written_as, read_beside_data}
use Rattle.md_array.proofs.StepLemmas.Record.{lists_alike, record_happens}
use Rattle.md_array.proofs.General.Indices.{at_set_same, got_in_map, got_other}
use Rattle.md_array.proofs.Worlds.Supers.{super_shown}
use Rattle.md_laws.specs.CrashesWithin.{MayAllBeLeft}
use Rattle.md_laws.specs.Left.{IsLeftByCrash, IsLeftEnrolled, IsLeftEnrolling, IsLeftFilling, IsLeftPreparing, IsLeftRecording, IsLeftRecordingShort, IsLeftTakingBack, IsLeftTargeted, IsLeftTargeting, IsLeftWriting, IsStoringOwn, contents_of}
use Rattle.md_laws.specs.Recovering.{MirrorRunJoins}
use Rattle.md_laws.specs.Runs.{MirrorRun, MirrorRunWith, Moment, history_of, then_as}
use Rattle.md_laws.specs.ReadAfterCrashes.{ReadsAs}
use Rattle.md_laws.proofs.Crashes.LeftContents.{got_content, got_like, read_changed, read_in, read_same}
use Rattle.md_laws.proofs.Runs.Moments.{IsSoundAt}
use Rattle.md_laws.proofs.Crashes.DataInFlight.{inside_array, may_write_on, whole_sectors}
use Rattle.md_laws.proofs.Crashes.FirstSector.{cut_reads, reads_same}
use Rattle.md_laws.proofs.Crashes.AsFailed.{failed_as_tried, left_after_write, left_as_tried, crashes_as_tried, crashes_at_events}
use Rattle.md_laws.proofs.Crashes.AloneChanged.{left_prepared, crashes_as_filled, crashes_as_prepared, crashes_at_enrol}
use Rattle.md_laws.proofs.Crashes.AtSteps.{crashes_at_write}
use Rattle.md_laws.proofs.Crashes.Enrolled.{left_since, may_record_new}
use Rattle.md_laws.proofs.Crashes.TakenBack.{left_after, may_record_again}
use Rattle.md_laws.proofs.Crashes.WithinTarget.{admitted_there, checkpointed_there, recovering_recorded}
use Rattle.md_laws.proofs.Runs.Rests.{at_once, at_rest}
use Rattle.md_device.proofs.Failing.{fails_none}
use Rattle.std.specs.Prelude.{⊤}

-- ---- one device, as a crash left it
-- parts are on a device as long as another
pub parts_on : (a : ArrayView) (m : MemberView) (old new : List ℕ) → length new ≡ length old → HasParts a m old → HasParts a m new
parts_on a m old new long has =
    let sectors : sectors_of_device old ≡ sectors_of_device new = ap (λ (n : ℕ). n / 512) (sym long) in
    record {
      placed = subst (λ (n : ℕ). AreAreasPlaced n m.superblock (bitmap_sectors m.stored.chunks)) sectors has.placed;
      bitmap = subst (λ (n : ℕ). BitmapIsPlaced n m.superblock (bitmap_sectors m.stored.chunks)) sectors has.bitmap;
      size = has.size;
      count = has.count;
    }

-- an opening would read of it what is kept
pub record IsLeftDevice (a : ArrayView) (m : MemberView) (failed_at : ℕ) (spoiled : Bool) (content : List ℕ) : Type 0 where
  pub parts : HasParts a m content
  pub read : IsReadAsKept a m failed_at spoiled content

-- ---- what is left, sorted: after no event, or after one within whose call the crash came
-- what is kept of recovering members, and the marks, stay; and what is known to be stored, is so
pub record KeepsMemory (w next : World) : Type 0 where
  pub state : (k : ℕ) → next.state k ≡ w.state k
  pub offset : (k : ℕ) → next.offset k ≡ w.offset k
  pub bad : (k s : ℕ) → next.bad k s ≡ w.bad k s
  pub marks : (c : ℕ) → next.marks c ≡ w.marks c
  pub request : (n : ℕ) → next.request n ≡ w.request n
  pub known : (i c : ℕ) → w.marks c ≡ true → w.known i c ≡ true → next.known i c ≡ true

same_memory : (w : World) (stored : ℕ → Stored) (due : ℕ → Bool) (told : ℕ → ℕ) → KeepsMemory w (record w { stored = stored; due = due; stored_offset = told })
same_memory w stored due told = record { state = λ _. refl; offset = λ _. refl; bad = λ _ _. refl; marks = λ _. refl; request = λ _. refl; known = λ _ _ _ at. at }

device_memory : (w : World) (k : ℕ) (left : Stored) (next : World) → next ≡ model_steps.with_device w k left → KeepsMemory w next
device_memory w k left next is = subst (KeepsMemory w) (sym is) (same_memory w (model_steps.with_device w k left).stored w.due w.stored_offset)

marks_memory : (w : World) (k b : ℕ) → KeepsMemory w (model_steps.marks_stored w k b)
marks_memory w k b = record {
  state = λ _. refl;
  offset = λ _. refl;
  bad = λ _ _. refl;
  marks = λ _. refl;
  request = λ _. refl;
  known = λ i c marked known. put-at k (model_steps.bits_after w b (w.known k)) w.known i (λ (bits : ℕ → Bool). bits c ≡ true)
      (λ here. by_test (eqb (block_of c) b)
      (λ at. ap (λ x. cond x (w.marks c) (w.known k c)) at ∙ marked)
      (λ off. ap (λ x. cond x (w.marks c) (w.known k c)) off ∙ sym (ap (λ (j : ℕ). w.known j c) here) ∙ known))
      (λ _. known);
}

-- It is told of these members that the crash did not come while their bitmap and their log were being stored.
pub record IsSortedBeside (Beside : ℕ → Type 0) (t : Moment) (left : List Disk) : Type 0 where
  pub events : List Event
  pub few : length events ≤ 1
  pub moment : Moment
  pub run : MirrorRun t events moment
  pub still : (a : Content) → MirrorRunWith t a events moment a
  pub joins : (a : Content) → MirrorRunJoins t a events moment a (still a)
  pub counted : moment.failed_at ≡ t.failed_at
  pub away : (d : ℕ) → moment.away d ≡ t.away d
  pub tried : moment.tried ≡ t.tried
  pub spoiled : (k : ℕ) → t.spoiled k ≡ false → moment.spoiled k ≡ false
  pub offset_known : (k : ℕ) → t.offset_unknown k ≡ false → moment.offset_unknown k ≡ false
  pub log_known : (k : ℕ) → Beside k → t.log_unknown k ≡ false → moment.log_unknown k ≡ false
  pub memory : KeepsMemory (world_of t.mirror t.requests) (history_of moment).now
  pub count : (history_of moment).now.events ≡ (world_of t.mirror t.requests).events
  pub cut : ℕ → Stored
  pub is_cut : crashes.MayStandAtCrash (geometry_of t.mirror.array) (history_of moment).now cut
  pub read : (k : ℕ) → (read_in t.mirror.array left k ≡ cut k) ⊎ ((read_in t.mirror.array left k).super ≡ None)
  pub device : (k : ℕ) (e : Disk) (m : MemberView) → slice_get left k ≡ Some e → IsMember t.mirror.array k m → IsLeftDevice t.mirror.array m t.failed_at (t.misread k) e.content

abbrev pub IsSorted : Moment → List Disk → Type 0
IsSorted t left = IsSortedBeside (λ _. ⊥) t left

sorted_like : {Beside : ℕ → Type 0} (t : Moment) (found left : List Disk) → contents_of found ≡ contents_of left → IsSortedBeside Beside t found → IsSortedBeside Beside t left
sorted_like t found left same s = record {
  events = s.events;
  few = s.few;
  moment = s.moment;
  run = s.run;
  still = s.still;
  joins = s.joins;
  counted = s.counted;
  away = s.away;
  tried = s.tried;
  spoiled = s.spoiled;
  offset_known = s.offset_known;
  log_known = s.log_known;
  memory = s.memory;
  count = s.count;
  cut = s.cut;
  is_cut = s.is_cut;
  read = λ k. let here = read_same t.mirror.array left found (sym same) k in elim (s.read k) [
    | inl is ↦ inl (here ∙ is)
    | inr none ↦ inr (ap (λ (x : Stored). x.super) here ∙ none)
  ];
  device = λ k e m at is. let d = got_like found left same k e at in subst (IsLeftDevice t.mirror.array m t.failed_at (t.misread k)) d.2 (s.device k d.0 m d.1 is);
}

-- the crash came within a write of data, which is let through at that moment
abbrev IsSortedWriting : (ℕ → Type 0) → Moment → List Disk → Type 0
IsSortedWriting Beside t left = (s : IsSortedBeside Beside t left) × crashes.WasTried (geometry_of t.mirror.array) (history_of s.moment)

writing_like : {Beside : ℕ → Type 0} (t : Moment) (found left : List Disk) → contents_of found ≡ contents_of left → IsSortedWriting Beside t found → IsSortedWriting Beside t left
unfolding sorted_like
writing_like t found left same s = (sorted_like t found left same s.0, s.1)

-- ---- a write of a request's data that the crash broke off: any bytes may stand in its range
record IsTorn (t : Moment) (left : List Disk) : Type 0 where
  l : IsLeftWriting t left
  member : MemberView
  may : MayWrite l.on t.mirror.array l.request member
  found : List Disk
  tried : IsTried l.on (data_write member l.request) t.mirror.disks found
  same : contents_of found ≡ contents_of left

module _ (Beside : ℕ → Type 0) (t : Moment) (at : IsSoundAt t) where
  abbrev v : MirrorView
  v = t.mirror

  abbrev a : ArrayView
  a = t.mirror.array

  as_it_was : (k : ℕ) (d : Disk) (m : MemberView) → slice_get v.disks k ≡ Some d → IsMember a k m → IsLeftDevice a m t.failed_at (t.misread k) d.content
  as_it_was k d m there is = record { parts = parts_of v at.sound k d m there is; read = at.read k d m there is }

  between : IsSortedBeside Beside t v.disks
  between = record {
    events = [];
    few = omega arith;
    moment = t;
    run = at_rest t;
    still = λ x. (at_rest t, refl);
    joins = λ _. tt;
    counted = refl;
    away = λ _. refl;
    tried = refl;
    spoiled = λ _ clear. clear;
    offset_known = λ _ known. known;
    log_known = λ _ _ known. known;
    memory = same_memory (world_of v t.requests) (world_of v t.requests).stored (world_of v t.requests).due (world_of v t.requests).stored_offset;
    count = refl;
    cut = (world_of v t.requests).stored;
    is_cut = inl refl;
    read = λ k. inl refl;
    device = as_it_was;
  }

  -- one device was written, or it was tried
  module _ (k : ℕ) (m : MemberView) (w : Write) (disks : List Disk) (is_member : IsMember a k m) (tried : IsTried k w v.disks disks) where
    there_before : (e : Disk) → slice_get disks k ≡ Some e → (d : Disk) × (slice_get v.disks k ≡ Some d)
    there_before e is = let low = slice_get_within disks k e is in let many = tried.as_many in got_within v.disks k (omega arith)

    each_device : ((d e : Disk) → slice_get v.disks k ≡ Some d → slice_get disks k ≡ Some e → IsLeftDevice a m t.failed_at (t.misread k) e.content)
        → (j : ℕ) (e : Disk) (n : MemberView) → slice_get disks j ≡ Some e → IsMember a j n → IsLeftDevice a n t.failed_at (t.misread j) e.content
    each_device this j e n there is = by_same j k
        (λ here.
        let now : slice_get disks k ≡ Some e = sym (ap (slice_get disks) here) ∙ there in
        let d = there_before e now in
        let same : n ≡ m = same_Some n m (sym is ∙ ap (slice_get a.members) here ∙ is_member) in
        subst (λ (i : ℕ). IsLeftDevice a n t.failed_at (t.misread i) e.content) (sym here) (subst (λ (x : MemberView). IsLeftDevice a x t.failed_at (t.misread k) e.content) (sym same) (this d.0 e d.1 now)))
        (λ apart. as_it_was j e n (sym (tried.others j apart) ∙ there) is)

    elsewhere : (j : ℕ) → j ≢ k → read_in a disks j ≡ read_in a v.disks j
    elsewhere j apart = ap (stored_on a (slice_get a.members j)) (tried.others j apart)

  -- ---- within a write of data
  module _ (left : List Disk) (torn : IsTorn t left) where
    abbrev l : IsLeftWriting t left
    l = torn.l

    abbrev k : ℕ
    k = torn.l.on

    abbrev m : MemberView
    m = torn.member

    is_member : IsMember a k m
    is_member = torn.may.intent.in_sync.member

    torn_device : (d e : Disk) → slice_get v.disks k ≡ Some d → slice_get torn.found k ≡ Some e → IsLeftDevice a m t.failed_at (t.misread k) e.content
    torn_device d e was is =
        let parts = parts_of v at.sound k d m was is_member in
        let same = torn.tried.outside d e was is in
        record {
          parts = parts_on a m d.content e.content same.size parts;
          read = read_beside_data a m d.content e.content parts l.request.sector (request_sectors l.request) (inside_array v t.requests l.others l.request at.sound at.in_flight l.in_flight)
              (subst (λ (x : ℕ). SameOutside (512 * (m.superblock.data_offset + l.request.sector)) x d.content e.content) (whole_sectors l.request l.whole) same)
              t.failed_at (t.misread k) (at.read k d m was is_member);
        }

    torn_cut : crashes.IsTorn (geometry_of a) (world_of v (among l.request l.others)) (read_in a torn.found)
    torn_cut =
        let low = slice_get_within a.members k m is_member in
        let as_many = at.sound.fits.as_many in
        let many = torn.tried.as_many in
        let d = got_within v.disks k (omega arith) in
        let e = got_within torn.found k (omega arith) in
        let parts = parts_of v at.sound k d.0 m d.1 is_member in
        let n = request_sectors l.request in
        let inside = inside_array v t.requests l.others l.request at.sound at.in_flight l.in_flight in
        let same = subst (λ (x : ℕ). SameOutside (512 * (m.superblock.data_offset + l.request.sector)) x d.0.content e.0.content) (whole_sectors l.request l.whole) (torn.tried.outside d.0 e.0 d.1 e.1) in
        let was : read_in a v.disks k ≡ stored_of a m d.0.content = stored_there v.disks a k m d.0 is_member d.1 in
        let is : read_in a torn.found k ≡ stored_of a m e.0.content = stored_there torn.found a k m e.0 is_member e.1 in
        record {
          number = l.request.ticket.number;
          request = request_of l.request;
          on = k;
          let_through = may_write_on v t.requests l.others l.request at.sound at.in_flight l.in_flight k m torn.may;
          others = λ j apart. ap (stored_on a (slice_get a.members j)) (torn.tried.others j apart);
          rest = is ∙ data_alone a m d.0.content e.0.content parts l.request.sector n inside same
              ∙ (λ i. record (sym was i) { content = ap (λ (x : Stored). x.content) (sym is) i });
          outside = λ s off. ap (λ (x : Stored). x.content s) is
              ∙ data_elsewhere a m d.0.content e.0.content parts l.request.sector n inside same s (not_touched (request_of l.request) s off)
              ∙ sym (ap (λ (x : Stored). x.content s) was);
        }

    torn_found : IsSortedWriting Beside t torn.found
    torn_found = (
      record {
        events = [];
        few = omega arith;
        moment = t;
        run = at_rest t;
        still = λ x. (at_rest t, refl);
        joins = λ _. tt;
        counted = refl;
        away = λ _. refl;
        tried = refl;
        spoiled = λ _ clear. clear;
        offset_known = λ _ known. known;
        log_known = λ _ _ known. known;
        memory = same_memory (world_of v t.requests) (world_of v t.requests).stored (world_of v t.requests).due (world_of v t.requests).stored_offset;
        count = refl;
        cut = read_in a torn.found;
        is_cut = inr (subst (λ r. crashes.IsTorn (geometry_of a) (world_of v r) (read_in a torn.found)) (sym l.in_flight) torn_cut);
        read = λ j. inl refl;
        device = each_device k m (data_write m l.request) torn.found is_member torn.tried torn_device;
      },
      inr (torn_cut.number, torn_cut.request, torn_cut.on, subst (λ r. model_steps.MayWrite (geometry_of a) (world_of v r) torn_cut.number torn_cut.request torn_cut.on) (sym l.in_flight) torn_cut.let_through),
    )

    torn_sorted : IsSortedWriting Beside t left
    torn_sorted = writing_like t torn.found left torn.same torn_found

  writing : (left : List Disk) → IsLeftWriting t left → IsSortedWriting Beside t left
  writing left l =
      let wrote : (m : MemberView) → MayWrite l.on a l.request m → IsWritten l.on (data_write m l.request) v.disks l.next.disks → IsTorn t left =
      λ m may done. let f = crashes_as_tried l.on (data_write m l.request) v.disks l.next.disks (contents_of left) at.honest done l.within in record { l = l; member = m; may = may; found = f.0; tried = f.1; same = f.2 } in
      let failed : (m : MemberView) → MayWrite l.on a l.request m → IsFailed l.on (data_write m l.request) v.disks l.next.disks → IsTorn t left =
      λ m may tried. let f = failed_as_tried l.on (data_write m l.request) v.disks l.next.disks (contents_of left) at.honest tried l.within in record { l = l; member = m; may = may; found = f.0; tried = f.1; same = f.2 } in
      torn_sorted left (elim l.call [
        | inl done ↦ wrote done.member done.may done.disks
        | inr other ↦
            elim other [
              | inl fails ↦ failed fails.member fails.may fails.fails.disks
              | inr halts ↦ failed halts.member halts.may halts.halts.disks
            ]
      ])

  -- ---- within a write of marks that is done: before it or after it
  module _ (k block : ℕ) (inside : block < bitmap_sectors a.marks.chunks) (next : MirrorView) (r : StoresMarkSector k block v next) where
    abbrev e_marks : Event
    e_marks = Event.StoreMarks k block

    marked_device : (d e : Disk) → slice_get v.disks k ≡ Some d → slice_get next.disks k ≡ Some e → IsLeftDevice a r.member t.failed_at (t.misread k) e.content
    marked_device d e was is =
        let m = r.member in
        let is_member = r.may.in_sync.member in
        record {
          parts = parts_on a m d.content e.content (r.disks.tried.outside d e was is).size (parts_of v at.sound k d m was is_member);
          read = read_marked k block v next at.sound inside r d e was is (at.honest k d was) t.requests t.failed_at (t.misread k) (at.read k d m was is_member);
        }

    marked : IsSortedBeside Beside t next.disks
    marked =
        let does = store_marks_happens k block v next at.sound inside r at.honest t.requests at.in_flight in
        record {
          events = e_marks ∷ [];
          few = omega arith;
          moment = then_as t e_marks next t.requests;
          run = (next, t.requests, at_once v next t.requests t.requests e_marks does, at_rest (then_as t e_marks next t.requests));
          still = λ x. (next, t.requests, x, at_once v next t.requests t.requests e_marks does, refl, (at_rest (then_as t e_marks next t.requests), refl));
          joins = λ _. (tt, tt);
          counted = refl;
          away = λ _. refl;
          tried = refl;
          spoiled = λ _ clear. clear;
          offset_known = λ _ known. known;
          log_known = λ _ _ known. known;
          memory = subst (KeepsMemory (world_of v t.requests)) (sym does.step.1.1) (marks_memory (world_of v t.requests) k block);
          count = ap (λ (w : World). w.events) does.step.1.1;
          cut = (world_of next t.requests).stored;
          is_cut = inl refl;
          read = λ j. inl (sym (ap (λ (x : ArrayView). read_in x next.disks j) r.array ∙ read_changed a k r.member (record r.member { stored = r.stored }) r.may.in_sync.member refl next.disks j));
          device = each_device k r.member r.write next.disks r.may.in_sync.member r.disks.tried marked_device;
        }

    stored_sorted : (left : List Disk) → MayAllBeLeft v.disks next.disks (contents_of left) → IsSortedBeside Beside t left
    stored_sorted left within =
        let long : length r.write.bytes ≡ 512 = ap (λ (x : Write). length x.bytes) r.may.write.is ∙ length-bitmap_sector r.may.write.header a.marks block in
        elim (crashes_at_events e_marks v.disks next.disks (contents_of left) at.honest (r.write, long, r.disks) within) [
          | inl before ↦ sorted_like t v.disks left (sym before) between
          | inr after ↦ sorted_like t next.disks left (sym after) marked
        ]

  -- ---- within a write of a superblock, of a member that is kept up to date
  module _ (k : ℕ) (m : MemberView) (is_member : IsMember a k m) (active : is_recorded m.state ≡ true) (bytes : List ℕ) (size : length bytes ≡ 4096) where
    abbrev at_super : Write
    at_super = record { sector = 8; bytes = bytes }

    -- device k, where no more than the superblock was written
    module _ (disks : List Disk) (tried : IsTried k at_super v.disks disks) (d e : Disk) (was : slice_get v.disks k ≡ Some d) (is : slice_get disks k ≡ Some e) where
      beside : SameOutside (512 * 8) 4096 d.content e.content
      beside = subst (λ (n : ℕ). SameOutside (512 * 8) n d.content e.content) size (tried.outside d e was is)

      parts : HasParts a m d.content
      parts = parts_of v at.sound k d m was is_member

      log_kept : IsLogKept m.superblock d.content e.content
      log_kept = log_beside_super a m d.content e.content parts beside

      -- it has the superblock that is read there, and lists what this content would list
      read_super : (s : Option Super) (content : List ℕ) → super_in (block_on e.content) ≡ s → ((sector : ℕ) → is_listed m.superblock e.content sector ≡ is_listed m.superblock content sector)
          → read_in a disks k ≡ record (stored_of a m d.content) { super = s; listed = (stored_of a m content).listed }
      read_super s content same lists =
          stored_there disks a k m e is_member is ∙ super_alone a m d.content e.content parts beside
          ∙ (λ i. record (stored_of a m d.content) { super = same i; listed = lists_alike a m content e.content lists i })

      super_device : (t.misread k ≡ false → HasOwnSuper a.shared m.superblock e.content) → IsLeftDevice a m t.failed_at (t.misread k) e.content
      super_device has = record {
        parts = parts_on a m d.content e.content beside.size parts;
        read = record {
          super = has;
          header = λ un. elim ((at.read k d m was is_member).header un) [
            | inl width ↦ inl (ap (λ (h : List ℕ). number_at 4 52 h / 512) (header_beside_super a m d.content e.content parts beside) ∙ width)
            | inr gone ↦ absurd (true≢false (sym active ∙ gone.0))
          ];
        };
      }

      abbrev block : List ℕ
      block = block_on e.content

      each_super : (t.misread k ≡ false → HasOwnSuper a.shared m.superblock e.content) → (j : ℕ) (x : Disk) (n : MemberView) → slice_get disks j ≡ Some x → IsMember a j n
          → IsLeftDevice a n t.failed_at (t.misread j) x.content
      each_super has = each_device k m at_super disks is_member tried
          (λ b x _ there. subst (λ (y : Disk). IsLeftDevice a m t.failed_at (t.misread k) y.content) (got_same disks k e x is there) (super_device has))

      -- the old one is read there, or none
      unrecorded : ReadsAs block (block_on d.content) ⊎ (super_in block ≡ None) → IsSortedBeside Beside t disks
      unrecorded reads = record {
        events = [];
        few = omega arith;
        moment = t;
        run = at_rest t;
        still = λ x. (at_rest t, refl);
        joins = λ _. tt;
        counted = refl;
        away = λ _. refl;
        tried = refl;
        spoiled = λ _ clear. clear;
        offset_known = λ _ known. known;
        log_known = λ _ _ known. known;
        memory = same_memory (world_of v t.requests) (world_of v t.requests).stored (world_of v t.requests).due (world_of v t.requests).stored_offset;
        count = refl;
        cut = (world_of v t.requests).stored;
        is_cut = inl refl;
        read = λ j. by_same j k
            (λ here. subst (λ (i : ℕ). (read_in a disks i ≡ read_in a v.disks i) ⊎ ((read_in a disks i).super ≡ None)) (sym here) (elim reads [
              | inl same ↦ inl (read_super (super_in (block_on d.content)) d.content same.decoded (λ sector. listed_same_bit m.superblock d.content e.content log_kept sector same.decoded same.map) ∙ sym (stored_there v.disks a k m d is_member was))
              | inr none ↦ inr (ap (λ (x : Stored). x.super) (stored_there disks a k m e is_member is) ∙ none)
            ]))
            (λ apart. inl (elsewhere k m at_super disks is_member tried j apart));
        device = each_super (λ clear. elim reads [
          | inl same ↦ own_stays_as a.shared m.superblock d.content e.content (λ v on. let was = same.read v on.fields on.sound in record { fields = was.0; sound = was.1 })
              log_kept ((at.read k d m was is_member).super clear)
          | inr none ↦ λ v on. absurd (none_some (super_of v) (sym none ∙ super_shown block v on.fields on.sound))
        ]);
      }

  -- ---- within a record
  module _ (k : ℕ) (m : MemberView) (may : MayRecord k a m) where
    abbrev w : Write
    w = super_write a m

    -- the mirror once it is recorded
    module _ (d : Disk) (was : slice_get v.disks k ≡ Some d) where
      abbrev new : Disk
      new = record d { content = written d.content 8 w.bytes }

      abbrev next : MirrorView
      next = record { disks = set v.disks k new; array = with_member_at a k (recorded_member m) }

      low : k < length v.disks
      low = slice_get_within v.disks k d was

      new_there : slice_get next.disks k ≡ Some new
      new_there = at_set_same v.disks k new low

      room : 512 * 8 + 4096 ≤ length d.content
      room = let long = (at.sound.fits.each k d m was may.at).long in omega arith

      new_tried : IsTried k w v.disks next.disks
      new_tried = record {
        as_many = length-set v.disks k new;
        others = λ j apart. got_other v.disks k j new apart;
        stays = λ b e before after. let one = got_same v.disks k d b was before in let other = got_same next.disks k new e new_there after in
            subst (λ (x : Disk). StaysHonest x e) one (subst (StaysHonest d) other (record { honest = refl; counted = omega arith; grown = fails_none d.faults (λ _. ⊤) }));
        outside = λ b e before after. let one = got_same v.disks k d b was before in let other = got_same next.disks k new e new_there after in
            subst (λ (x : Disk). SameOutside (512 * 8) (length w.bytes) x.content e.content) one
            (subst (λ (x : Disk). SameOutside (512 * 8) (length w.bytes) d.content x.content) other (spliced_outside d.content (512 * 8) w.bytes (length w.bytes) refl (let size = may.readable.size in let fits = room in omega arith)));
      }

      records : Records k v next
      records = record {
        member = m;
        may = may;
        disks = record {
          tried = new_tried;
          done = λ b e before after _. let one = got_same v.disks k d b was before in let other = got_same next.disks k new e new_there after in
              ap (λ (x : Disk). x.content) (sym other) ∙ ap (λ (x : Disk). written x.content 8 w.bytes) one;
          within = λ b e before after _. let one = got_same v.disks k d b was before in let other = got_same next.disks k new e new_there after in
              subst (λ (x : Disk). LeavesOn (IsCutShort b.content (w ∷ [])) b x) other (subst (λ (x : Disk). LeavesOn (IsCutShort b.content (w ∷ [])) b (record x { content = written d.content 8 w.bytes })) (sym one)
              (leaves_none b.crashes (IsCutShort b.content (w ∷ []))));
        };
        array = refl;
      }

      block_new : block_on new.content ≡ w.bytes
      block_new = part-spliced d.content (512 * 8) w.bytes 4096 (sym may.readable.size) (let fits = room in omega arith)

      -- the new one is read there
      module _ (disks : List Disk) (tried : IsTried k w v.disks disks) (e : Disk) (is : slice_get disks k ≡ Some e) (reads : ReadsAs (block_on e.content) w.bytes) where
        lists_next : (sector : ℕ) → is_listed m.superblock e.content sector ≡ is_listed m.superblock new.content sector
        lists_next sector =
            listed_same_bit m.superblock new.content e.content
            (λ there. log_kept k m may.at may.active w.bytes may.readable.size disks tried d e was is there ∙ sym (log_kept k m may.at may.active w.bytes may.readable.size next.disks new_tried d new was new_there there)) sector
            (reads.decoded ∙ sym (ap super_in block_new)) (reads.map ∙ sym (ap (number_at 4 8) block_new))

        read_next : (j : ℕ) → read_in a disks j ≡ read_in next.array next.disks j
        read_next j =
            by_same j k
            (λ here. subst (λ (i : ℕ). read_in a disks i ≡ read_in a next.disks i) (sym here)
            (read_super k m may.at may.active w.bytes may.readable.size disks tried d e was is (super_in w.bytes) new.content reads.decoded lists_next
            ∙ sym (read_super k m may.at may.active w.bytes may.readable.size next.disks new_tried d new was new_there (super_in w.bytes) new.content (ap super_in block_new) (λ _. refl))))
            (λ apart. elsewhere k m w disks may.at tried j apart ∙ sym (elsewhere k m w next.disks may.at new_tried j apart))
            ∙ sym (read_changed a k m (recorded_member m) may.at refl next.disks j)

        recorded : IsSortedBeside Beside t disks
        recorded =
            let does = record_happens k v next at.sound records at.honest t.requests at.in_flight in
            record {
              events = Event.Record k ∷ [];
              few = omega arith;
              moment = then_as t (Event.Record k) next t.requests;
              run = (next, t.requests, at_once v next t.requests t.requests (Event.Record k) does, at_rest (then_as t (Event.Record k) next t.requests));
              still = λ x. (next, t.requests, x, at_once v next t.requests t.requests (Event.Record k) does, refl, (at_rest (then_as t (Event.Record k) next t.requests), refl));
              joins = λ _. (tt, tt);
              counted = refl;
              away = λ _. refl;
              tried = refl;
              spoiled = λ j clear. put-at k false t.spoiled j (λ b. b ≡ false) (λ _. refl) (λ _. clear);
              offset_known = λ j known. put-at k false t.offset_unknown j (λ b. b ≡ false) (λ _. refl) (λ _. known);
              log_known = λ _ _ known. known;
              memory = subst (KeepsMemory (world_of v t.requests)) (sym does.step.1.3)
                  (same_memory (world_of v t.requests) (model_steps.recorded (world_of v t.requests) k does.step.1.0).stored (model_steps.recorded (world_of v t.requests) k does.step.1.0).due
                  (model_steps.recorded (world_of v t.requests) k does.step.1.0).stored_offset);
              count = ap (λ (w : World). w.events) does.step.1.3;
              cut = (world_of next t.requests).stored;
              is_cut = inl refl;
              read = λ j. inl (read_next j);
              device = each_super k m may.at may.active w.bytes may.readable.size disks tried d e was is (λ _. own_written_as a m e.content may.readable (λ v on. (reads.read v on.fields on.sound).0));
            }

  -- such a write left the old one, the new one or none
  pub record IsRecordCut (left : List Disk) : Type 0 where
    pub on : ℕ
    pub member : MemberView
    pub may : MayRecord on a member
    pub found : List Disk
    pub tried : IsTried on (super_write a member) v.disks found
    pub same : contents_of found ≡ contents_of left

  record_cut : (left : List Disk) (c : IsRecordCut left)
      → ((d e : Disk) → slice_get v.disks c.on ≡ Some d → slice_get c.found c.on ≡ Some e
      → ReadsAs (block_on e.content) (block_on d.content) ⊎ (ReadsAs (block_on e.content) (super_write a c.member).bytes ⊎ (super_in (block_on e.content) ≡ None)))
      → IsSortedBeside Beside t left
  record_cut left c reads =
      let low = slice_get_within a.members c.on c.member c.may.at in
      let as_many = at.sound.fits.as_many in
      let many = c.tried.as_many in
      let d = got_within v.disks c.on (omega arith) in
      let e = got_within c.found c.on (omega arith) in
      sorted_like t c.found left c.same (elim (reads d.0 e.0 d.1 e.1) [
        | inl old ↦ unrecorded c.on c.member c.may.at c.may.active (super_write a c.member).bytes c.may.readable.size c.found c.tried d.0 e.0 d.1 e.1 (inl old)
        | inr other ↦
            elim other [
              | inl new ↦ recorded c.on c.member c.may d.0 d.1 c.found c.tried e.0 e.1 new
              | inr none ↦ unrecorded c.on c.member c.may.at c.may.active (super_write a c.member).bytes c.may.readable.size c.found c.tried d.0 e.0 d.1 e.1 (inr none)
            ]
      ])

  recording : (left : List Disk) → IsLeftRecording t left → IsSortedBeside Beside t left
  recording left l =
      let wrote : (m : MemberView) → MayRecord l.on a m → IsWritten l.on (super_write a m) v.disks l.next.disks → IsRecordCut left =
      λ m may done. let f = crashes_as_tried l.on (super_write a m) v.disks l.next.disks (contents_of left) at.honest done l.within in record { on = l.on; member = m; may = may; found = f.0; tried = f.1; same = f.2 } in
      let failed : (m : MemberView) → MayRecord l.on a m → IsFailed l.on (super_write a m) v.disks l.next.disks → IsRecordCut left =
      λ m may tried. let f = failed_as_tried l.on (super_write a m) v.disks l.next.disks (contents_of left) at.honest tried l.within in record { on = l.on; member = m; may = may; found = f.0; tried = f.1; same = f.2 } in
      let whole : (c : IsRecordCut left) → c.on ≡ l.on → IsSortedBeside Beside t left =
      λ c here. record_cut left c (λ d e was is.
      let x = got_like left c.found (sym c.same) c.on e is in
      let leaves = l.super c.member (ap (slice_get a.members) (sym here) ∙ c.may.at) d x.0 (ap (slice_get v.disks) (sym here) ∙ was) (ap (slice_get left) (sym here) ∙ x.1) in
      elim leaves [
        | inl old ↦ inl (reads_same (block_on e.content) (block_on d.content) (ap block_on (sym x.2) ∙ old))
        | inr other ↦
            elim other [
              | inl new ↦ inr (inl (reads_same (block_on e.content) (super_write a c.member).bytes (ap block_on (sym x.2) ∙ new)))
              | inr none ↦ inr (inr (ap (λ (b : List ℕ). super_in (block_on b)) (sym x.2) ∙ none))
            ]
      ]) in
      elim l.call [
        | inl done ↦ whole (wrote done.member done.may done.disks) refl
        | inr other ↦
            elim other [
              | inl fails ↦ whole (failed fails.member fails.may fails.fails.disks) refl
              | inr further ↦
                  elim further [
                    | inl halts ↦ whole (failed halts.member halts.may halts.halts.disks) refl
                    | inr leaves ↦ whole (failed leaves.member leaves.may leaves.disks) refl
                  ]
            ]
      ]

  -- where both superblocks end in the first sector, that one tells which is read
  recording_short : (left : List Disk) → IsLeftRecordingShort t left → IsSortedBeside Beside t left
  recording_short left l =
      let m = l.call.member in
      let w = super_write a m in
      let size = l.call.may.readable.size in
      let f = crashes_as_tried l.on w v.disks l.next.disks (contents_of left) at.honest l.call.disks l.within in
      let but = crashes_at_write l.on w v.disks l.next.disks (contents_of left) at.honest l.call.disks l.within in
      record_cut left (record { on = l.on; member = m; may = l.call.may; found = f.0; tried = f.1; same = f.2 }) (λ d e was is.
      let x = got_like left f.0 (sym f.2) l.on e is in
      let long = (at.sound.fits.each l.on d m was l.call.may.at).long in
      elim (cut_reads d.content x.0.content w.bytes size (omega arith) (l.old d was) l.new (but.this d x.0.content was (got_in_map (λ (y : Disk). y.content) left l.on x.0 x.1))) [
        | inl old ↦ inl (subst (λ (c : List ℕ). ReadsAs (block_on c) (block_on d.content)) x.2 old)
        | inr new ↦ inr (inl (subst (λ (c : List ℕ). ReadsAs (block_on c) w.bytes) x.2 new))
      ])

  -- where the superblock of a device that was taken back reads as after the call, it is a crash after it
  taking_back : (left : List Disk) → IsLeftTakingBack t left → IsSortedBeside Beside t left
  taking_back left l =
      let r = l.call.recorded in
      let m = r.takes.member in
      let k = length l.before.disks in
      let may = may_record_again l.on l.device l.before v l.call at.sound.fits.as_many in
      let f = left_as_tried k (super_write a m) v.disks (contents_of left) (left_after l.on l.device l.before v l.call (contents_of left) at.honest l.honest l.within) in
      let long = ap length r.disks ∙ length_push l.before.disks r.now in
      let many = f.1.as_many in
      let d = got_within v.disks k (omega arith) in
      let e = got_within f.0 k (omega arith) in
      let x = got_like left f.0 (sym f.2) k e.0 e.1 in
      sorted_like t f.0 left f.2
      (unrecorded k m may.at may.active (super_write a m).bytes may.readable.size f.0 f.1 d.0 e.0 d.1 e.1 (inl (subst (λ (c : List ℕ). ReadsAs (block_on c) (block_on d.0.content)) x.2 (l.reads d.0 x.0 d.1 x.1))))

  -- after an event of a member that is rebuilt, which changes nothing in memory
  changed : (e : Event) (mid : MirrorView) (does : Does v t.requests e mid t.requests) → mid.array ≡ a
      → ((x : Content) → Becomes (geometry_of a) e (world_of v t.requests) x x)
      → ((x : Content) → JoinsBehind (geometry_of a) e (world_of v t.requests) x)
      → KeepsMemory (world_of v t.requests) (world_of mid t.requests) → (world_of mid t.requests).events ≡ (world_of v t.requests).events
      → (then_as t e mid t.requests).tried ≡ t.tried → (then_as t e mid t.requests).failed_at ≡ t.failed_at → ((n : ℕ) → (then_as t e mid t.requests).away n ≡ t.away n)
      → ((unstored : ℕ → Bool) (n : ℕ) → spoiled_after e (world_of v t.requests) unstored n ≡ unstored n)
      → ((n : ℕ) → (then_as t e mid t.requests).misread n ≡ t.misread n)
      → ((n : ℕ) → Beside n → t.log_unknown n ≡ false → (then_as t e mid t.requests).log_unknown n ≡ false)
      → IsSortedBeside Beside t mid.disks
  changed e mid does same becomes joins memory count tried counted away still_unstored still_read log_known = record {
    events = e ∷ [];
    few = omega arith;
    moment = then_as t e mid t.requests;
    run = (mid, t.requests, at_once v mid t.requests t.requests e does, at_rest (then_as t e mid t.requests));
    still = λ x. (mid, t.requests, x, at_once v mid t.requests t.requests e does, becomes x, (at_rest (then_as t e mid t.requests), refl));
    joins = λ x. (joins x, tt);
    counted = counted;
    away = away;
    tried = tried;
    spoiled = λ n clear. still_unstored t.spoiled n ∙ clear;
    offset_known = λ n known. still_unstored t.offset_unknown n ∙ known;
    log_known = log_known;
    memory = memory;
    count = count;
    cut = (world_of mid t.requests).stored;
    is_cut = inl refl;
    read = λ j. inl (ap (λ (x : ArrayView). read_in x mid.disks j) (sym same));
    device = λ j x n there is.
        let is_there : IsMember mid.array j n = subst (λ (y : ArrayView). IsMember y j n) (sym same) is in
        subst (λ (y : ArrayView). IsLeftDevice y n t.failed_at (t.misread j) x.content) same (record {
          parts = parts_of mid does.sound j x n there is_there;
          read = subst (λ b. IsReadAsKept mid.array n t.failed_at b x.content) (still_read j)
              (subst (λ at. IsReadAsKept mid.array n at ((then_as t e mid t.requests).misread j) x.content) counted (does.read t.failed_at t.misread at.read j x n there is_there));
        });
  }

  -- within a filling: after one that leaves no more than this
  filled : (k : ℕ) (mid : MirrorView) → Fills k v mid → IsSortedBeside Beside t mid.disks
  filled k mid fills =
      let does = fill_happens k v mid at.sound fills at.honest t.requests at.in_flight in
      changed (Event.Fill k) mid does fills.array (λ _. refl) (λ _. tt) (device_memory (world_of v t.requests) k does.step.1.0 (world_of mid t.requests) does.step.1.3) (ap (λ (w : World). w.events) does.step.1.3) refl refl (λ _. refl) (λ _ _. refl) (λ _. refl) (λ _ _ known. known)

  -- and so within a preparing
  prepared : (k : ℕ) (mid : MirrorView) → (Beside k → ⊥) → Prepares k v mid → IsSortedBeside Beside t mid.disks
  prepared k mid none prepares =
      let does = prepare_happens k v mid at.sound prepares at.honest t.requests at.in_flight in
      changed (Event.Prepare k) mid does prepares.array (λ _. refl) (λ _. tt) (device_memory (world_of v t.requests) k does.step.1.0 (world_of mid t.requests) does.step.1.3) (ap (λ (w : World). w.events) does.step.1.3) refl refl (λ _. refl) (λ _ _. refl) (λ _. refl)
      (λ n beside known. put-miss k true t.log_unknown n (λ same. none (subst Beside same beside)) ∙ known)

  preparing : (left : List Disk) (l : IsLeftPreparing t left) → (Beside l.on → ⊥) → IsSortedBeside Beside t left
  preparing left l none =
      let f = crashes_as_prepared l.on v l.next (contents_of left) at.honest l.call l.within in
      sorted_like t f.0.disks left f.2 (prepared l.on f.0 none f.1)

  -- and within `enrol`, before the superblock is written
  enrolling : (left : List Disk) (l : IsLeftEnrolling t left) → (Beside l.on → ⊥) → IsSortedBeside Beside t left
  enrolling left l none =
      let but = crashes_at_enrol l.on l.copied l.lost v l.next (contents_of left) at.honest l.call l.within in
      let x = left_prepared l.on l.copied l.lost v l.next at.sound l.call l.may (contents_of left) but
      (λ d e was is.
      let found = got_content left l.on e is in
      ap block_on (sym found.2) ∙ l.super d found.0 was found.1) in
      sorted_like t x.0.disks left x.2 (prepared l.on x.0 none x.1)

  filling : (left : List Disk) → IsLeftFilling t left → IsSortedBeside Beside t left
  filling left l =
      let f = crashes_as_filled l.on v l.next (contents_of left) at.honest l.call l.within in
      sorted_like t f.0.disks left f.2 (filled l.on f.0 f.1)

  -- where the superblock stands as after `enrol`, it is a crash after it
  enrolled : (left : List Disk) → IsLeftEnrolled t left → IsSortedBeside Beside t left
  enrolled left l =
      let m = l.call.member in
      let may = may_record_new l.on l.copied l.lost l.before v l.sound at.sound l.call l.honest l.failed_at l.spoiled l.read l.unspoiled in
      let but = crashes_at_enrol l.on l.copied l.lost l.before v (contents_of left) l.honest l.call l.within in
      let since = left_since l.on l.copied l.lost l.before v l.sound at.sound l.call l.honest l.failed_at l.spoiled l.read l.unspoiled (contents_of left) but
      (λ e x is found. let y = got_content left l.on x found in ap block_on (sym y.2) ∙ l.super e y.0 is y.1) in
      let f = left_as_tried l.on (super_write a m) v.disks (contents_of left) since in
      let low = slice_get_within a.members l.on m may.at in
      let as_many = at.sound.fits.as_many in
      let many = f.1.as_many in
      let d = got_within v.disks l.on (omega arith) in
      let e = got_within f.0 l.on (omega arith) in
      let x = got_like left f.0 (sym f.2) l.on e.0 e.1 in
      sorted_like t f.0 left f.2
      (unrecorded l.on m may.at may.active (super_write a m).bytes may.readable.size f.0 f.1 d.0 e.0 d.1 e.1 (inl (reads_same (block_on e.0.content) (block_on d.0.content) (ap block_on (sym x.2) ∙ l.super d.0 x.0 d.1 x.1))))

  -- within `admit` or `checkpoint`, where the superblock reads as before, or none is read
  pub record IsTargetCut (left : List Disk) : Type 0 where
    pub on : ℕ
    pub member : MemberView
    pub is_member : IsMember a on member
    pub bytes : List ℕ
    pub size : length bytes ≡ 4096
    pub found : List Disk
    pub tried : IsTried on (record { sector = 8; bytes = bytes }) v.disks found
    pub same : contents_of found ≡ contents_of left

  targeting : (left : List Disk) → IsLeftTargeting t left → IsSortedBeside Beside t left
  targeting left l =
      let wrote : (m : MemberView) → IsMember a l.on m → (bytes : List ℕ) → length bytes ≡ 4096 → IsWritten l.on (record { sector = 8; bytes = bytes }) v.disks l.next.disks → IsTargetCut left =
      λ m is bytes size done. let f = crashes_as_tried l.on (record { sector = 8; bytes = bytes }) v.disks l.next.disks (contents_of left) at.honest done l.within in
      record { on = l.on; member = m; is_member = is; bytes = bytes; size = size; found = f.0; tried = f.1; same = f.2 } in
      let failed : (m : MemberView) → IsMember a l.on m → (bytes : List ℕ) → length bytes ≡ 4096 → IsFailed l.on (record { sector = 8; bytes = bytes }) v.disks l.next.disks → IsTargetCut left =
      λ m is bytes size tried. let f = failed_as_tried l.on (record { sector = 8; bytes = bytes }) v.disks l.next.disks (contents_of left) at.honest tried l.within in
      record { on = l.on; member = m; is_member = is; bytes = bytes; size = size; found = f.0; tried = f.1; same = f.2 } in
      let whole : (c : IsTargetCut left) → c.on ≡ l.on → IsSortedBeside Beside t left =
      λ c here.
      let low = slice_get_within a.members c.on c.member c.is_member in
      let as_many = at.sound.fits.as_many in
      let many = c.tried.as_many in
      let d = got_within v.disks c.on (omega arith) in
      let e = got_within c.found c.on (omega arith) in
      let x = got_like left c.found (sym c.same) c.on e.0 e.1 in
      let reads = l.super d.0 x.0 (ap (slice_get v.disks) (sym here) ∙ d.1) (ap (slice_get left) (sym here) ∙ x.1) in
      sorted_like t c.found left c.same
      (unrecorded c.on c.member c.is_member (l.recorded c.member (ap (slice_get a.members) (sym here) ∙ c.is_member)) c.bytes c.size c.found c.tried d.0 e.0 d.1 e.1
      (subst (λ (y : List ℕ). ReadsAs (block_on y) (block_on d.0.content) ⊎ (super_in (block_on y) ≡ None)) x.2 reads)) in
      elim l.call [
        | inl admits ↦ whole (wrote admits.may.member admits.may.at _ admits.readable.size admits.disks) refl
        | inr (inl fails) ↦ whole (failed fails.may.member fails.may.at _ fails.readable.size fails.disks) refl
        | inr (inr further) ↦
            elim further.1 [
              | inl stores ↦ whole (wrote stores.may.member stores.may.at _ stores.readable.size stores.disks) refl
              | inr fails ↦ whole (failed fails.member fails.at _ fails.readable.size fails.disks) refl
            ]
      ]

  -- where it reads as after the call, it is a crash after it
  targeted_by : (left : List Disk) (l : IsLeftTargeted t left) (m : MemberView) → IsMember a l.on m → is_recorded m.state ≡ true → (bytes : List ℕ) → length bytes ≡ 4096
      → IsWritten l.on (record { sector = 8; bytes = bytes }) l.before.disks v.disks → IsSortedBeside Beside t left
  targeted_by left l m is active bytes size done =
      let w : Write = record { sector = 8; bytes = bytes } in
      let f = left_as_tried l.on w v.disks (contents_of left) (left_after_write l.on w l.before.disks v.disks (contents_of left) l.honest done l.within) in
      let low = slice_get_within a.members l.on m is in
      let as_many = at.sound.fits.as_many in
      let many = f.1.as_many in
      let d = got_within v.disks l.on (omega arith) in
      let e = got_within f.0 l.on (omega arith) in
      let x = got_like left f.0 (sym f.2) l.on e.0 e.1 in
      sorted_like t f.0 left f.2
      (unrecorded l.on m is active bytes size f.0 f.1 d.0 e.0 d.1 e.1 (inl (subst (λ (c : List ℕ). ReadsAs (block_on c) (block_on d.0.content)) x.2 (l.reads d.0 x.0 d.1 x.1))))

  targeted : (left : List Disk) → IsLeftTargeted t left → IsSortedBeside Beside t left
  targeted left l = elim l.call [
    | inl admits ↦ targeted_by left l (admitted_member admits.role admits.may.member) (admitted_there l.on l.before v admits) refl _ admits.readable.size admits.disks
    | inr stores ↦ targeted_by left l (recorded_member (checked stores.1.sure stores.1.may.member)) (checkpointed_there l.on stores.0 l.before v stores.1)
        (recovering_recorded stores.1.may.member.state stores.1.may.recovering) _ stores.1.readable.size stores.1.disks
  ]

  pub sorted_beside : (left : List Disk) (is : IsLeftByCrash t left) → ((k : ℕ) → IsStoringOwn t left is k → Beside k → ⊥) → IsSortedBeside Beside t left
  sorted_beside left (inl same) none = sorted_like t v.disks left (sym same) between
  sorted_beside left (inr (inl l)) none = stored_sorted l.on l.block l.inside l.next l.call left l.within
  sorted_beside left (inr (inr (inl l))) none = (writing left l).0
  sorted_beside left (inr (inr (inr (inl l)))) none = recording left l
  sorted_beside left (inr (inr (inr (inr (inl l))))) none = recording_short left l
  sorted_beside left (inr (inr (inr (inr (inr (inl l)))))) none = taking_back left l
  sorted_beside left (inr (inr (inr (inr (inr (inr (inl l))))))) none = filling left l
  sorted_beside left (inr (inr (inr (inr (inr (inr (inr (inl l)))))))) none = preparing left l (none l.on refl)
  sorted_beside left (inr (inr (inr (inr (inr (inr (inr (inr (inl l))))))))) none = enrolling left l (none l.on refl)
  sorted_beside left (inr (inr (inr (inr (inr (inr (inr (inr (inr (inl l)))))))))) none = enrolled left l
  sorted_beside left (inr (inr (inr (inr (inr (inr (inr (inr (inr (inr (inl l))))))))))) none = targeting left l
  sorted_beside left (inr (inr (inr (inr (inr (inr (inr (inr (inr (inr (inr l))))))))))) none = targeted left l

-- whatever crash it is
pub sorted : (t : Moment) → IsSoundAt t → (left : List Disk) → IsLeftByCrash t left → IsSorted t left
sorted t at left is = sorted_beside (λ _. ⊥) t at left is (λ _ _ no. no)

-- within a write of data that is let through at the moment of which the crash is
pub sorted_writing : (t : Moment) (at : IsSoundAt t) (left : List Disk) (l : IsLeftWriting t left)
    → crashes.WasTried (geometry_of t.mirror.array) (history_of (sorted t at left (inr (inr (inl l)))).moment)
unfolding sorted sorted_beside
sorted_writing t at left l = (writing (λ _. ⊥) t at left l).1
