-- A member gets a request's bytes: no more than those sectors of its data changes, and that is the model's event.
use Rattle.std.proofs.Common.{◌≡◌, ℕ, ◌+◌, ◌-◌, ◌*◌, ◌/◌, ◌<◌, ◌≤◌, Bool, true, false, cond, ◌&&◌, ◌||◌, not, eqb, nat_lt, List, [], ◌∷◌, ◌++◌, length, take, drop, slice_get, count_by, Option, Some, refl, sym, ap, ◌∙◌, subst, arith, drop-drop, eq-eqb}
use Rattle.std.proofs.lemmas.List.{drop-take, drop_at, length-append, length-take-le, take-take, take_at}
use Rattle.std.proofs.lemmas.List.Folds.{list_any-append}
use Rattle.std.proofs.lemmas.Option.{slice_get_within}
use Rattle.std.proofs.lemmas.Bool.{or_right, and_from}
use Rattle.std.proofs.Math.Bool.{or-false}
use Rattle.md_device.specs.Splice.{SameOutside, part, spliced}
use Rattle.md_bitmap.specs.Marks.{is_set}
use Rattle.md_bitmap.proofs.Limits.{div-lt-div_ceil}
use Rattle.md_assembly.specs.States.{is_in_sync}
use Rattle.md_assembly.proofs.Indices.{got_within}
use Rattle.md_model.specs.Sectors.{put}
use Rattle.md_model.specs.Devices.{Stored}
use Rattle.md_model.specs.Events.{Event, Step}
use Rattle.md_model.specs.States as model
use Rattle.md_model.specs.Steps as steps
use Rattle.md_model.specs.Worlds.{Request, World, touches}
use Rattle.md_model.proofs.Steps.Between.{between_step, in_flight_step}
use Rattle.md_model.proofs.Cases.{below-nat_lt, by_test}
use Rattle.md_model.proofs.Puts.{put-hit, put-self, put-twice}
use Rattle.md_inflight.specs.Requests.Pending.{PendingView, has_written, request_sectors}
use Rattle.md_kept_members.specs.View.{MemberView}
use Rattle.md_state.specs.Requests.{AreInFlight, IsPending, among, lacks, request_of}
use Rattle.md_state.specs.View.{ArrayView, Disk, MirrorView, geometry_of}
use Rattle.md_state.specs.Steps.Begin.{first_sector}
use Rattle.md_state.specs.Steps.WriteMember.{MayWrite, WritesTo, data_write}
use Rattle.md_array.specs.Consistency.{HasPlaces, HasSuper, IsConsistent}
use Rattle.md_array.specs.Events.{HappensAmong}
use Rattle.md_array.specs.Worlds.{kind_of, stored_of, super_in, world_of}
use Rattle.md_array.proofs.General.Honesty.{tried_honest}
use Rattle.md_array.proofs.StepLemmas.InFlight.{among_in_flight, inside_of, is_touched, not_touched, whole_of}
use Rattle.md_array.proofs.Worlds.Listed.{still_next, still_known}
use Rattle.md_array.proofs.StepLemmas.OneMember.{ChangesMember, changed_is_consistent, changed_world, member_there, stored_there}
use Rattle.md_array.proofs.Worlds.PartsApart.{HasParts, block_beside_data, data_alone, data_elsewhere, log_beside_data, parts_of}
use Rattle.md_array.proofs.Worlds.ReadAsKept.{changed_read, read_beside_data}
use Rattle.md_array.proofs.Worlds.InSync.{in_sync_is, in_sync_there, number_at}
use Rattle.md_array.proofs.Worlds.Shown.{at_is, at_past, by_member}
use Rattle.md_array.proofs.Worlds.States.{same_recovering}
use Rattle.md_array.proofs.General.Indices.{one_fewer, set_itself}

-- ---- the numbers of those that have it
written_too : (p : PendingView) (number d : ℕ) → has_written (record p { written = p.written ++ number ∷ [] }) d ≡ (has_written p d || eqb d number)
written_too p number d = list_any-append (eqb d) p.written (number ∷ []) ∙ ap (λ b. has_written p d || b) (or-false (eqb d number))

lacks_less : (a b c : Bool) → (a && not (b || c)) ≡ true → (a && not b) ≡ true
lacks_less true true c e = e
lacks_less true false c e = refl
lacks_less false b c e = e

had : (a b : Bool) → b ≡ true → (a && not b) ≡ false
had true b e = ap not e
had false b e = refl

-- ---- a part of what was written
pub part-spliced_within : {X : Type 0} (xs : List X) (at : ℕ) (ys : List X) (i n : ℕ) → i + n ≤ length ys → at ≤ length xs → part (spliced xs at ys) (at + i) n ≡ part ys i n
unfolding part spliced
part-spliced_within xs at ys i n low fits =
    let rest = drop (at + length ys) xs in
    ap (take n) (sym (drop-drop i at (take at xs ++ (ys ++ rest))) ∙ ap (drop i) (drop_at (take at xs) (ys ++ rest) at (length-take-le at xs fits)))
    ∙ sym (drop-take i n (ys ++ rest))
    ∙ ap (drop i) (sym (take-take (i + n) (length ys) (ys ++ rest) low) ∙ ap (take (i + n)) (take_at ys rest (length ys) refl))
    ∙ drop-take i n ys

-- ---- what a member's write asks is what the model asks
module _ (k : ℕ) (v : MirrorView) (p : PendingView) (c : IsConsistent v) (pending : IsPending v.array p) (m : MemberView) (may : MayWrite k v.array p m) (others : ℕ → Option Request) where
  abbrev start : ℕ
  start = first_sector v.array p.sector

  pub may_write : steps.MayWrite (geometry_of v.array) (world_of v (among p others)) p.ticket.number (request_of p) k
  may_write = record {
    in_flight = put-hit p.ticket.number (Some (request_of p)) others;
    in_sync = in_sync_there v.disks v.array (among p others) k m may.intent.in_sync;
    marked = λ j s on at_s.
        let x = in_sync_is v.disks v.array (among p others) j on in
        let there = is_touched (request_of p) s at_s in
        let to = there.1 in
        let in_array = inside_of v p c pending in
        member_there v.array j x.0 false (λ y. nat_lt (s / v.array.chunks.sectors) v.array.marks.chunks && is_set y.stored.bytes (s / v.array.chunks.sectors)) x.1.member
        ∙ and_from (nat_lt (s / v.array.chunks.sectors) v.array.marks.chunks) (is_set x.0.stored.bytes (s / v.array.chunks.sectors))
        (below-nat_lt (s / v.array.chunks.sectors) v.array.marks.chunks
        (subst (λ (y : ℕ). s / v.array.chunks.sectors < y) (sym c.chunks.count) (div-lt-div_ceil v.array.chunks.size v.array.chunks.sectors s c.chunks.wide (omega arith))))
        (may.intent.marked j x.0 x.1 s there.0 there.1);
    recorded = λ j on. let x = in_sync_is v.disks v.array (among p others) j on in member_there v.array j x.0 false (λ y. y.due) x.1.member ∙ may.intent.recorded j x.0 x.1;
    unsaid = λ j. by_member v.array j
        (λ x is. (λ i. model.is_recovering (at_is v.array j model.State.Faulty (λ y. kind_of y.state) x is i) && nat_lt start (at_is v.array j 0 (λ y. y.stored_offset) x is i))
        ∙ ap (λ b. b && nat_lt start x.stored_offset) (same_recovering x.state)
        ∙ may.intent.unsaid j x is)
        (λ past. ap (λ s. model.is_recovering s && nat_lt start ((world_of v (among p others)).stored_offset j)) (at_past v.array j model.State.Faulty (λ y. kind_of y.state) past));
    unwritten = ap (has_written p) (number_at v.disks v.array (among p others) k m may.intent.in_sync.member) ∙ may.unwritten;
  }

module _ (k : ℕ) (old new : MirrorView) (p q : PendingView) (c : IsConsistent old) (pending : IsPending old.array p) (t : WritesTo k old new p q) where
  abbrev a : ArrayView
  a = old.array

  abbrev m : MemberView
  m = t.member

  abbrev at : ℕ
  at = m.superblock.data_offset + p.sector

  abbrev n : ℕ
  n = request_sectors p

  abbrev number : ℕ
  number = m.superblock.dev_number

  -- the request as it is then
  abbrev then : PendingView
  then = record p { written = p.written ++ number ∷ [] }

  inside : p.sector + n ≤ a.chunks.size
  inside = inside_of old p c pending

  long : length p.bytes ≡ 512 * n
  long = whole_of a p pending

  changes : ChangesMember k m m (data_write m p) old new
  changes = record {
    at = t.may.intent.in_sync.member;
    like = record { superblock = refl; bad = refl; offset = refl; header = refl; chunks = refl; state = refl };
    disks = t.disks.tried;
    array = t.array ∙ (λ i. record old.array { members = sym (set_itself a.members k m t.may.intent.in_sync.member) i });
  }

  outside : (d e : Disk) → slice_get old.disks k ≡ Some d → slice_get new.disks k ≡ Some e → SameOutside (512 * at) (512 * n) d.content e.content
  outside d e before after = subst (λ (x : ℕ). SameOutside (512 * at) x d.content e.content) long (t.disks.tried.outside d e before after)

  parts : (d : Disk) → slice_get old.disks k ≡ Some d → HasParts a m d.content
  parts d before = parts_of old c k d m before t.may.intent.in_sync.member

  -- ---- the mirror stays consistent
  keeps_super : (d e : Disk) → slice_get old.disks k ≡ Some d → slice_get new.disks k ≡ Some e → HasSuper m d → HasSuper m e
  keeps_super d e before after has =
      let block = block_beside_data a m d.content e.content (parts d before) p.sector n inside (outside d e before after) in
      record {
        super = has.super;
        is = ap super_in block ∙ has.is;
        number = has.number;
        recovering = has.recovering;
        places = subst (HasPlaces m) (sym block) has.places;
        listed = still_next m.superblock d.content e.content (log_beside_data a m d.content e.content (parts d before) p.sector n inside (outside d e before after)) block has.listed;
        known = still_known m.superblock d.content e.content (log_beside_data a m d.content e.content (parts d before) p.sector n inside (outside d e before after)) has.known;
      }

  pub written_is_consistent : IsConsistent new
  written_is_consistent = changed_is_consistent k m m (data_write m p) old new changes c (λ d e before after _ _ has. keeps_super d e before after has)

  -- ---- the request stays in flight, and there is room for those that still lack it
  fewer_lack : count_by (lacks then) a.members + 1 ≤ count_by (lacks p) a.members
  fewer_lack = one_fewer (lacks p) (lacks then) a.members k m
      (λ x e. lacks_less (is_in_sync x.state) (has_written p x.superblock.dev_number) (eqb x.superblock.dev_number number)
      (sym (ap (λ b. is_in_sync x.state && not b) (written_too p number x.superblock.dev_number)) ∙ e))
      t.may.intent.in_sync.member
      (and_from (is_in_sync m.state) (not (has_written p number)) t.may.intent.in_sync.in_sync (ap not t.may.unwritten))
      (had (is_in_sync m.state) (has_written then number)
      (written_too p number number ∙ or_right (has_written p number) (eqb number number) (eq-eqb number number refl)))

  then_is_pending : IsPending a then
  then_is_pending =
      let room = pending.room in
      let fewer = fewer_lack in
      let more = length-append p.written (number ∷ []) in
      record { belongs = pending.belongs; extent = pending.extent; whole = pending.whole; room = omega arith }

  pub written_is_pending : IsPending new.array q
  written_is_pending = subst (IsPending new.array) (sym t.pending) (subst (λ (x : ArrayView). IsPending x then) (sym t.array) then_is_pending)

  -- so do the others
  pub written_keeps_pending : (o : PendingView) → IsPending a o → IsPending new.array o
  written_keeps_pending o is = subst (λ (x : ArrayView). IsPending x o) (sym t.array) is

  -- ---- the event
  module _ (d e : Disk) (before : slice_get old.disks k ≡ Some d) (after : slice_get new.disks k ≡ Some e) (honest : d.honest ≡ true) (others : ℕ → Option Request) where
    abbrev r : Request
    r = request_of p

    abbrev w : World
    w = world_of old (among p others)

    -- a sector of the member's data
    sector_written : (s : ℕ) → (stored_of a m e.content).content s ≡ cond (touches r s) (r.bytes s) ((stored_of a m d.content).content s)
    sector_written s = by_test (touches r s)
        (λ on.
        let there = is_touched r s on in
        let from = there.0 in
        let to = there.1 in
        let in_array = inside in
        let size = long in
        let there_is = (parts d before).placed.data_within in
        let holds = (parts d before).placed.data_holds in
        let as_large = (parts d before).size in
        let place : 512 * at + 512 * (s - p.sector) ≡ 512 * (m.superblock.data_offset + s) = omega arith in
        ap (λ b. cond b (part e.content (512 * (m.superblock.data_offset + s)) 512) []) (below-nat_lt s a.chunks.size (omega arith))
        ∙ ap (λ (x : ℕ). part e.content x 512) (sym place)
        ∙ ap (λ (x : List ℕ). part x (512 * at + 512 * (s - p.sector)) 512) (t.disks.done d e before after honest)
        ∙ part-spliced_within d.content (512 * at) p.bytes (512 * (s - p.sector)) 512 (omega arith) (omega arith)
        ∙ sym (ap (λ b. cond b (r.bytes s) ((stored_of a m d.content).content s)) on))
        (λ off.
        data_elsewhere a m d.content e.content (parts d before) p.sector n inside (outside d e before after) s (not_touched r s off)
        ∙ sym (ap (λ b. cond b (r.bytes s) ((stored_of a m d.content).content s)) off))

    stored_written : stored_of a m e.content ≡ steps.written_device w k r
    stored_written =
        data_alone a m d.content e.content (parts d before) p.sector n inside (outside d e before after)
        ∙ (λ i. record (stored_of a m d.content) { content = λ s. sector_written s i })
        ∙ (λ i. let was : Stored = sym (stored_there old.disks a k m d t.may.intent.in_sync.member before) i in
        record was { content = λ s. cond (touches r s) (r.bytes s) (was.content s) })

    -- the request, with the member's number
    request_then : request_of then ≡ record r { written = put (w.number k) true r.written }
    request_then = λ i. record r { written = λ x. has_number x i }
      where
        has_number : (x : ℕ) → has_written then x ≡ put (w.number k) true (has_written p) x
        has_number x =
            written_too p number x
            ∙ by_test (eqb x number)
            (λ same. or_right (has_written p x) (eqb x number) same ∙ sym (ap (λ b. cond b true (has_written p x)) same))
            (λ apart. ap (λ b. has_written p x || b) apart ∙ or-false (has_written p x) ∙ sym (ap (λ b. cond b true (has_written p x)) apart))
            ∙ ap (λ (y : ℕ). put y true (has_written p) x) (sym (number_at old.disks a (among p others) k m t.may.intent.in_sync.member))

    requests_then : among q others ≡ put p.ticket.number (Some (record r { written = put (w.number k) true r.written })) (among p others)
    requests_then =
        ap (λ (x : PendingView). among x others) t.pending
        ∙ ap (λ (x : Request). put p.ticket.number (Some x) others) request_then
        ∙ (λ i j. sym (put-twice p.ticket.number (Some (record r { written = put (w.number k) true r.written })) (Some r) others j) i)

    world_written : world_of new (among q others) ≡ steps.member_written w p.ticket.number r k
    world_written =
        let is = t.may.intent.in_sync.member in
        let due : put k m.due w.due ≡ w.due =
        ap (λ (b : Bool). put k b w.due) (sym (member_there a k m false (λ x. x.due) is)) ∙ put-self k w.due in
        let known : put k (λ s. nat_lt s a.marks.chunks && is_set m.stored.bytes s) w.known ≡ w.known =
        ap (λ (f : ℕ → Bool). put k f w.known) (λ i s. sym (member_there a k m false (λ x. nat_lt s a.marks.chunks && is_set x.stored.bytes s) is) i) ∙ put-self k w.known in
        let told : put k m.stored_offset w.stored_offset ≡ w.stored_offset =
        ap (λ o. put k o w.stored_offset) (sym (member_there a k m 0 (λ x. x.stored_offset) is)) ∙ put-self k w.stored_offset in
        changed_world k m m (data_write m p) old new changes e after (among q others)
        ∙ (λ i. record w { stored = put k (stored_written i) w.stored; due = due i; known = known i; request = requests_then i; stored_offset = told i })

    step : Step (geometry_of a) w (Event.WriteMember p.ticket.number k) (world_of new (among q others))
    step = (t.may.intent.running, (r, may_write k old p c pending m t.may others, world_written))

  pub write_member_happens : HappensAmong old p (Event.WriteMember p.ticket.number k) new q
  write_member_happens honest others in_flight =
      let low = slice_get_within a.members k m t.may.intent.in_sync.member in
      let as_many = c.fits.as_many in
      let many = t.disks.tried.as_many in
      let d = got_within old.disks k (omega arith) in
      let e = got_within new.disks k (omega arith) in
      let happens = step d.0 e.0 d.1 e.1 (honest k d.0 d.1) others in
      record {
        honest = tried_honest k (data_write m p) old.disks new.disks t.disks.tried honest;
        writes = (data_write m p, t.disks);
        in_flight = among_in_flight new.array q written_is_pending others (subst (λ (x : ArrayView). AreInFlight x others) (sym t.array) in_flight);
        geometry = ap geometry_of t.array;
        step = happens;
        content = λ x y holds becomes. between_step (geometry_of a) (world_of old (among p others)) (Event.WriteMember p.ticket.number k) (world_of new (among q others)) x y happens becomes holds;
        written = in_flight_step (geometry_of a) (world_of old (among p others)) (Event.WriteMember p.ticket.number k) (world_of new (among q others)) happens;
        sound = written_is_consistent;
        lists = tt;
        read = λ failed_at spoiled. changed_read k m m (data_write m p) old new failed_at spoiled spoiled changes (λ j apart. refl)
            (λ d' e' was is. read_beside_data a m d'.content e'.content (parts d' was) p.sector n inside (outside d' e' was is) failed_at (spoiled k));
      }
