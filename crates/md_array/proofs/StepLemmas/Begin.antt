-- A request begins, as the model has it.
use Rattle.std.proofs.Common.{slice_get, ◌≡◌, ℕ, ◌+◌, ◌-◌, ◌/◌, ◌%◌, ◌<◌, ◌≤◌, ◌↔◌, inl, inr, Bool, true, false, cond, not, ◌&&◌, ◌||◌, ◌==◌, eqb, nat_le, nat_lt, List, [], length, Option, Some, None, IsSome, refl, sym, ap, ◌∙◌, subst, arith, lt-ltb, eqb-true}
use Rattle.std.proofs.lemmas.Option.{none-some, same_Some}
use Rattle.std.proofs.lemmas.List.Sums.{count_by-le-length}
use Rattle.std.proofs.lemmas.Bool.{and_parts}
use Rattle.md_model.specs.Sectors.{put}
use Rattle.md_model.specs.Worlds as worlds
use Rattle.md_model.specs.Worlds.{touches}
use Rattle.md_model.specs.Counts as counts
use Rattle.md_model.specs.Events.{Event, Step}
use Rattle.md_model.specs.Steps.{begun, entered, lowered, touches_chunk, MayBegin}
use Rattle.md_model.proofs.Steps.Between.{between_step, in_flight_step}
use Rattle.md_model.proofs.Cases.{by_option, by_test, is_at_most}
use Rattle.md_inflight.specs.Inflight.{InflightList, lookup}
use Rattle.md_bitmap.specs.Marks.{Bitmap, is_set}
use Rattle.md_bitmap.proofs.Limits.{div-lt-div_ceil}
use Rattle.md_inflight.specs.Requests.Pending.{PendingView, extent_of}
use Rattle.md_inflight.specs.declared.requests.extent.Extent.{Extent}
use Rattle.md_state.specs.View.{Disk, ArrayView, MirrorView, geometry_of}
use Rattle.md_state.specs.Members.{clean_offset, is_degraded}
use Rattle.md_state.specs.Requests.{AreInFlight, AreInside, IsPending, among, lacks, request_of}
use Rattle.md_state.specs.Steps.Begin.{Begins, HasMarked, IsInRange, active_offset, array_after_rise, first_sector, has_sector_of, has_to_rise, with_offsets_lowered, with_request}
use Rattle.md_array.specs.Consistency.{IsConsistent}
use Rattle.md_array.specs.Events.{BeginHappens}
use Rattle.md_array.specs.ReadAsKept.{AreReadAsKept}
use Rattle.md_array.specs.Worlds.{AreHonest, world_of, world_on}
use Rattle.md_array.proofs.Worlds.ReadAsKept.{IsSameArray, counted_like, unwritten_read}
use Rattle.md_array.proofs.StepLemmas.CountedAtBegin.{counted_is_consistent, counted_keeps_pending, marked_counted, range_counted, rises_as_told, same_if, world_counted}
use Rattle.md_array.proofs.StepLemmas.InFlight.{found_either, found_last, found_with_last, is_touched, none_touches}
use Rattle.md_array.proofs.StepLemmas.RemarkedWorlds.{remarked_is_consistent, same_mirror, world_remarked}
use Rattle.md_array.proofs.Worlds.Lowered.{degraded_lowered, lowered_is_consistent, lowered_keeps_pending, lowered_read, world_lowered}
use Rattle.md_array.proofs.Worlds.Risen.{full_as_told, same_degraded}
use Rattle.md_array.proofs.General.Tests.{true_unless_false}

-- an active array is not clean
not_clean : (offset : ℕ) → (active_offset offset == clean_offset) ≡ false
not_clean offset = by_test (offset == clean_offset)
    (λ here. ap (λ b. cond b 0 offset == clean_offset) here)
    (λ away. ap (λ b. cond b 0 offset == clean_offset) away ∙ away)

or_within : (m s t : Bool) → (t ≡ true → m ≡ true) → (m && (s || t)) ≡ ((m && s) || t)
or_within true s t h = refl
or_within false s true h = absurd (none (h refl))
  where
    none : false ≡ true → ⊥
    none e = cc
or_within false s false h = refl

-- ---- the request is entered in an array that is at its count
module _ (disks : List Disk) (b : ArrayView) (c : IsConsistent (record { disks = disks; array = b })) (sector sectors : ℕ) (marks : Bitmap) (range : IsInRange b sector sectors) (marked : HasMarked b sector sectors marks) where
  abbrev entered_array : ArrayView
  entered_array = with_request b sector sectors marks

  extent : Extent
  extent = record { start = sector; sectors = sectors }

  -- the chunks that it touches are chunks of the array
  touched_within : (chunk : ℕ) → has_sector_of b sector sectors chunk ≡ true → chunk < b.marks.chunks
  touched_within chunk e =
      let width = b.chunks.sectors in
      let parts = and_parts (nat_le (sector / width) chunk) (nat_le chunk (((sector + sectors) - 1) / width)) e in
      let low = is_at_most chunk (((sector + sectors) - 1) / width) parts.1 in
      let some = range.some in
      let inside = range.inside in
      let below = div-lt-div_ceil b.chunks.size width ((sector + sectors) - 1) c.chunks.wide (omega arith) in
      let count = c.chunks.count in
      omega arith

  none_past : (chunk : ℕ) → marks.chunks ≤ chunk → is_set marks.bytes chunk ≡ false
  none_past chunk past =
      let same = marked.chunks in
      marked.bits chunk ∙ ap (λ x. x || has_sector_of b sector sectors chunk) (c.chunks.none_past chunk (omega arith))
      ∙ true_unless_false (has_sector_of b sector sectors chunk) (λ e. let low = touched_within chunk e in absurd (omega arith))

  entered_inside : AreInside entered_array
  entered_inside n e is = elim (found_either b.requests.next (record { start = sector; sectors = sectors }) b.requests.entries n e is) [
    | inl before ↦ c.inside n e before
    | inr new ↦ subst (λ (x : Extent). (0 < x.sectors) × (x.start + x.sectors ≤ b.chunks.size)) (sym new.1) (range.some, range.inside)
  ]

  entered_is_consistent : IsConsistent (record { disks = disks; array = entered_array })
  entered_is_consistent =
      remarked_is_consistent b (active_offset b.shared.resync_offset) marks entered_array.requests marked.chunks disks none_past entered_inside c

  -- other requests stay
  entered_keeps_pending : (p : PendingView) → IsPending b p → IsPending entered_array p
  entered_keeps_pending p is =
      let found = found_with_last b.requests.next (record { start = sector; sectors = sectors }) b.requests.entries p.ticket.number (extent_of p) is.extent in
      record {
        belongs = record { name = is.belongs.name; stands = is_some_by found; given = let given = is.belongs.given in omega arith };
        extent = found;
        whole = is.whole;
        room = is.room;
      }
    where
      is_some_by : {o : Option Extent} {e : Extent} → o ≡ Some e → IsSome o
      is_some_by e = rw e refl

  module _ (n : ℕ) (r : worlds.Request) (starts : r.start ≡ sector) (long : r.sectors ≡ sectors) where
    touches_same : (chunk : ℕ) → touches_chunk (geometry_of b) r chunk ≡ has_sector_of b sector sectors chunk
    touches_same chunk = rw (starts, long) refl

    world_entered : (others : ℕ → Option worlds.Request) → world_on disks entered_array (put n (Some r) others) ≡ entered (geometry_of b) (world_on disks b others) n r
    world_entered others =
        world_remarked b (active_offset b.shared.resync_offset) marks entered_array.requests marked.chunks disks (put n (Some r) others)
        ∙ (λ i. record (world_on disks b (put n (Some r) others)) {
          clean = not_clean b.shared.resync_offset i;
          marks = λ chunk. (ap (λ x. nat_lt chunk b.marks.chunks && x) (marked.bits chunk)
              ∙ or_within (nat_lt chunk b.marks.chunks) (is_set b.marks.bytes chunk) (has_sector_of b sector sectors chunk) (λ e. lt-ltb chunk b.marks.chunks (touched_within chunk e))
              ∙ ap (λ x. (nat_lt chunk b.marks.chunks && is_set b.marks.bytes chunk) || x) (sym (touches_same chunk))) i;
        })

    -- it is in flight
    entered_in_flight : (others : ℕ → Option worlds.Request) → n ≡ b.requests.next → lookup b.requests.entries b.requests.next ≡ None → AreInFlight b others → AreInFlight entered_array (put n (Some r) others)
    entered_in_flight others same fresh listed m q is = by (eqb m n) refl is
      where
        by : (t : Bool) → eqb m n ≡ t → cond t (Some r) (others m) ≡ Some q → lookup entered_array.requests.entries m ≡ Some (record { start = q.start; sectors = q.sectors })
        by true here is =
            let mine = same_Some r q is in
            ap (λ x. lookup entered_array.requests.entries x) (eqb-true m n here ∙ same)
            ∙ found_last b.requests.next (record { start = sector; sectors = sectors }) b.requests.entries fresh
            ∙ (λ i. Some (record { start = (sym starts ∙ ap (λ (x : worlds.Request). x.start) mine) i; sectors = (sym long ∙ ap (λ (x : worlds.Request). x.sectors) mine) i }))
        by false away is = found_with_last b.requests.next (record { start = sector; sectors = sectors }) b.requests.entries m (record { start = q.start; sectors = q.sectors }) (listed m q is)

-- ---- it begins, in any array
module _ (sector : ℕ) (bytes : List ℕ) (old new : MirrorView) (c : IsConsistent old) where
  abbrev a : ArrayView
  a = old.array

  abbrev full : Bool
  full = not (is_degraded a)

  abbrev sectors : ℕ
  sectors = length bytes / 512

  abbrev number : ℕ
  number = a.requests.next

  -- where the request's first chunk begins
  abbrev start : ℕ
  start = first_sector a sector

  abbrev counted : ArrayView
  counted = array_after_rise a

  -- the array as the request finds it
  abbrev ready : ArrayView
  ready = with_offsets_lowered start counted

  -- the request as its caller gets it
  abbrev begun_request : PendingView
  begun_request = record { ticket = record { name = a.requests.name; number = number }; sector = sector; bytes = bytes; written = [] }

  module _ (p : PendingView) (begins : Begins sector bytes old new p) where
    range : IsInRange ready sector sectors
    range = let r = range_counted a full sector sectors (has_to_rise a) begins.may.range in record { some = r.some; inside = r.inside }

    marked : HasMarked ready sector sectors new.array.marks
    marked = let m = marked_counted a full sector sectors new.array.marks (has_to_rise a) begins.marked in record { chunks = m.chunks; bits = m.bits }

    ready_is_consistent : IsConsistent (record { disks = old.disks; array = ready })
    ready_is_consistent = lowered_is_consistent counted start old.disks (counted_is_consistent a full old.disks (has_to_rise a) c)

    abbrev after : MirrorView
    after = record { disks = old.disks; array = with_request ready sector sectors new.array.marks }

    is_after : new ≡ after
    is_after = same_mirror new old.disks (with_request ready sector sectors new.array.marks) begins.disks begins.array

    pub begun_is_consistent : IsConsistent new
    begun_is_consistent = subst IsConsistent (sym is_after) (entered_is_consistent old.disks ready ready_is_consistent sector sectors new.array.marks range marked)

    pub begun_keeps_pending : (q : PendingView) → IsPending a q → IsPending new.array q
    begun_keeps_pending q is = subst (λ (x : ArrayView). IsPending x q) (sym begins.array)
        (entered_keeps_pending old.disks ready ready_is_consistent sector sectors new.array.marks range marked q (lowered_keeps_pending counted start q (counted_keeps_pending a full q (has_to_rise a) is)))

    same_requests : ready.requests ≡ a.requests
    same_requests = same_if a full (λ x. x.requests) refl (has_to_rise a)

    same_number : number ≡ ready.requests.next
    same_number = ap (λ (x : InflightList Extent). x.next) (sym same_requests)

    same_name : a.requests.name ≡ ready.requests.name
    same_name = ap (λ (x : InflightList Extent). x.name) (sym same_requests)

    ready_fresh : lookup ready.requests.entries ready.requests.next ≡ None
    ready_fresh = subst (λ (x : InflightList Extent). lookup x.entries x.next ≡ None) (sym same_requests) begins.fresh

    found_there : lookup (with_request ready sector sectors new.array.marks).requests.entries number ≡ Some (record { start = sector; sectors = sectors })
    found_there = ap (λ x. lookup (with_request ready sector sectors new.array.marks).requests.entries x) same_number
        ∙ found_last ready.requests.next (record { start = sector; sectors = sectors }) ready.requests.entries ready_fresh

    pub begun_is_pending : length bytes % 512 ≡ 0 → IsPending new.array p
    begun_is_pending whole = subst (IsPending new.array) (sym begins.pending) (subst (λ (x : ArrayView). IsPending x begun_request) (sym begins.array) (record {
      belongs = record { name = same_name; stands = rw found_there refl; given = let same = same_number in omega arith };
      extent = found_there;
      whole = whole;
      room =
          let least = count_by-le-length (lacks begun_request) ready.members in
          let few = ready_is_consistent.roles.few in
          omega arith;
    }))

    module _ (others : ℕ → Option worlds.Request) (listed : AreInFlight a others) where
      abbrev r : worlds.Request
      r = request_of begun_request

      new_here : others number ≡ None
      new_here = by_option (others number) (λ none. none) (λ q is. absurd (none-some (record { start = q.start; sectors = q.sectors }) (sym begins.fresh ∙ listed number q is)))

      may : MayBegin (geometry_of a) (world_of old others) number r
      may = record {
        resynced = begins.may.resynced;
        new = new_here;
        apart = λ m q is s touched. true_unless_false (touches r s) (λ also. let within = is_touched r s also in none_touches a others listed sector sectors begins.may.apart m q is s touched within.0 within.1);
        some = begins.may.range.some;
        inside = begins.may.range.inside;
        unwritten = λ d. refl;
      }

      same_geometry : geometry_of ready ≡ geometry_of a
      same_geometry = same_if a full geometry_of refl (has_to_rise a)

      new_geometry : geometry_of new.array ≡ geometry_of a
      new_geometry = ap geometry_of begins.array ∙ same_geometry

      world_begun : world_of new (among begun_request others) ≡ begun (geometry_of a) (world_of old others) number r (has_to_rise a) full
      world_begun =
          ap (λ (v : MirrorView). world_of v (among begun_request others)) is_after
          ∙ world_entered old.disks ready ready_is_consistent sector sectors new.array.marks range marked number r refl refl others
          ∙ (λ i. entered (same_geometry i) ((world_lowered counted start old.disks others
          ∙ ap (λ (w : worlds.World). lowered w start) (world_counted a full old.disks others (has_to_rise a))) i) number r)

      still_full : is_degraded new.array ≡ is_degraded a
      still_full = ap is_degraded begins.array ∙ degraded_lowered counted start ∙ same_if a full is_degraded (same_degraded a full) (has_to_rise a)

      full_after : (full ≡ true) ↔ counts.IsFull (geometry_of a) (world_of new (among begun_request others))
      full_after =
          subst (λ g. (full ≡ true) ↔ counts.IsFull g (world_of new (among begun_request others))) new_geometry
          (subst (λ x. (not x ≡ true) ↔ counts.IsFull (geometry_of new.array) (world_of new (among begun_request others))) still_full
          (full_as_told new.disks new.array (among begun_request others) begun_is_consistent.roles))

      step : Step (geometry_of a) (world_of old others) (Event.Begin number r) (world_of new (among begun_request others))
      step = (begins.may.running, (has_to_rise a, full, may, rises_as_told old.disks a others, full_after, world_begun))

      in_flight_after : AreInFlight new.array (among begun_request others)
      in_flight_after = subst (λ (x : ArrayView). AreInFlight x (among begun_request others)) (sym begins.array)
          (entered_in_flight old.disks ready ready_is_consistent sector sectors new.array.marks range marked number r refl refl others same_number ready_fresh
          (subst (λ (x : InflightList Extent). (n : ℕ) (q : worlds.Request) → others n ≡ Some q → lookup x.entries n ≡ Some (record { start = q.start; sectors = q.sectors })) (sym same_requests) listed))

    begun_read : (failed_at : ℕ) (spoiled : ℕ → Bool) → AreReadAsKept old failed_at spoiled → AreReadAsKept new failed_at spoiled
    begun_read failed_at spoiled are =
        let like = counted_like a full (has_to_rise a) in
        let mid : MirrorView = record { disks = old.disks; array = ready } in
        unwritten_read mid new failed_at spoiled begins.disks
        (subst (IsSameArray ready) (sym begins.array) (record { set_uuid = refl; size = refl; raid_disks = refl; sectors = refl; events = omega arith }))
        (λ j m is. (m, sym (ap (λ (x : ArrayView). slice_get x.members j) begins.array) ∙ is, record { superblock = refl; state = refl }))
        (lowered_read counted start old.disks failed_at spoiled
        (unwritten_read old (record { disks = old.disks; array = counted }) failed_at spoiled refl like.0 like.1 are))

    pub begin_happens : BeginHappens old new p
    begin_happens = subst (BeginHappens old new) (sym begins.pending) (λ honest others listed. record {
      honest = subst AreHonest (sym begins.disks) honest;
      writes = begins.disks;
      in_flight = in_flight_after others listed;
      geometry = new_geometry others listed;
      step = step others listed;
      content = λ before next holds becomes. between_step (geometry_of a) (world_of old others) (Event.Begin number (request_of begun_request)) (world_of new (among begun_request others)) before next (step others listed) becomes holds;
      written = in_flight_step (geometry_of a) (world_of old others) (Event.Begin number (request_of begun_request)) (world_of new (among begun_request others)) (step others listed);
      sound = begun_is_consistent;
      lists = tt;
      read = begun_read;
    })
