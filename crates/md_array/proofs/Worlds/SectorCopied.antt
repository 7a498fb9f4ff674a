-- A sector is copied from a member in sync to another: no more than that sector of its data changes, and that is the model's event.
use Rattle.std.proofs.Common.{◌/◌, ◌≡◌, ◌≢◌, ℕ, ◌+◌, ◌*◌, ◌<◌, ◌≤◌, ◌⊎◌, inl, inr, true, false, cond, Bool, ◌&&◌, nat_lt, true≢false, List, [], slice_get, Option, Some, None, refl, sym, ap, ◌∙◌, subst, arith, eq-eqb}
use Rattle.std.proofs.lemmas.Bool.{cases_lt, and_from, and_parts}
use Rattle.std.proofs.lemmas.Option.{slice_get_within}
use Rattle.md_array.proofs.Worlds.Bad.{test_from_bad}
use Rattle.md_array.specs.Consistency.{HasPlaces, HasSuper, IsConsistent}
use Rattle.md_array.specs.Events.{Happens}
use Rattle.md_array.specs.Worlds.{AreHonest, stored_of, super_in, world_of, lists_of}
use Rattle.md_array.proofs.General.Honesty.{tried_honest}
use Rattle.md_array.proofs.Worlds.Listed.{still_next, still_known}
use Rattle.md_array.proofs.StepLemmas.MakeClean.{none_listed}
use Rattle.md_array.proofs.StepLemmas.OneMember.{ChangesMember, changed_in_flight, changed_is_consistent, changed_world, member_there, stored_there}
use Rattle.md_array.proofs.Worlds.PartsApart.{HasParts, block_beside_data, data_alone, data_elsewhere, log_beside_data, parts_of}
use Rattle.md_array.proofs.Worlds.ReadAsKept.{changed_read, read_beside_data}
use Rattle.md_array.proofs.Worlds.InSync.{in_sync_is, in_sync_there, number_at}
use Rattle.md_array.proofs.General.Indices.{set_itself}
use Rattle.md_bitmap.specs.Marks.{is_set}
use Rattle.md_device.specs.Splice.{SameOutside, part}
use Rattle.md_device.proofs.Splices.{part-spliced}
use Rattle.md_assembly.specs.States.{is_in_sync, is_in_sync_as, takes_role}
use Rattle.md_assembly.specs.declared.state.MemberState.{MemberState}
use Rattle.md_assembly.specs.declared.state.MemberState.TheVariants.{Faulty, InSync, Recovering, Spare, Stale}
use Rattle.md_assembly.proofs.Indices.{got_within}
use Rattle.md_model.specs.Sectors.{put}
use Rattle.md_model.specs.Devices.{Stored}
use Rattle.md_model.specs.Events.{Event, Step}
use Rattle.md_model.specs.Resyncing as model
use Rattle.md_model.specs.Worlds.{Request, World}
use Rattle.md_model.proofs.Steps.Between.{between_step, in_flight_step}
use Rattle.md_model.proofs.Cases.{below-nat_lt, by_test, not_below}
use Rattle.md_model.proofs.Puts.{by_same, put-hit, put-miss, put-self}
use Rattle.md_kept_members.specs.View.{MemberView}
use Rattle.md_state.specs.View.{ArrayView, Disk, MirrorView, geometry_of}
use Rattle.md_state.specs.Steps.CopyData.{CopiesSector, Lists, MayCopy, MayCopyChunk, run_write}
use Rattle.md_state.specs.Members.{IsInSync, IsMember}
use Rattle.md_state.specs.Steps.MakeClean.{first_number}
use Rattle.md_state.specs.Requests.{AreInFlight}

-- ---- states
pub in_sync_as : (role : ℕ) (state : MemberState) → is_in_sync_as role state ≡ true → (is_in_sync state ≡ true) × (takes_role role state ≡ true)
in_sync_as role (InSync r) e = (refl, e)
in_sync_as role (Recovering r) e = absurd (true≢false (sym e))
in_sync_as role (Stale r) e = absurd (true≢false (sym e))
in_sync_as role Spare e = absurd (true≢false (sym e))
in_sync_as role Faulty e = absurd (true≢false (sym e))

pub has_role : (state : MemberState) → is_in_sync state ≡ true → (role : ℕ) × (is_in_sync_as role state ≡ true)
has_role (InSync r) e = (r, eq-eqb r r refl)
has_role (Recovering r) e = absurd (true≢false (sym e))
has_role (Stale r) e = absurd (true≢false (sym e))
has_role Spare e = absurd (true≢false (sym e))
has_role Faulty e = absurd (true≢false (sym e))

-- nothing is in flight where the list has no first
pub none_there : (a : ArrayView) (requests : ℕ → Option Request) → AreInFlight a requests → first_number a ≡ None → (n : ℕ) → requests n ≡ None
none_there a requests listed none n = by (requests n) refl
  where
    by : (r : Option Request) → requests n ≡ r → r ≡ None
    by None e = refl
    by (Some p) e = absurd (none_listed a.requests.entries n (record { start = p.start; sectors = p.sectors }) none (listed n p e))

-- ---- what a copy asks is what the model asks
module _ (v : MirrorView) (c : IsConsistent v) (honest : AreHonest v.disks) (requests : ℕ → Option Request) (in_flight : AreInFlight v.array requests) where
  abbrev a : ArrayView
  a = v.array

  abbrev world : World
  world = world_of v requests

  marked_there : (chunk : ℕ) → is_set a.marks.bytes chunk ≡ true → nat_lt chunk a.marks.chunks ≡ true
  marked_there chunk marked = by_test (nat_lt chunk a.marks.chunks) (λ low. low)
      (λ past. absurd (true≢false (sym marked ∙ c.chunks.none_past chunk (not_below chunk a.marks.chunks past))))

  pub may_copy_chunk : (chunk : ℕ) → MayCopyChunk chunk a → model.MayCopyChunk world chunk
  may_copy_chunk chunk may = record {
    idle = none_there a requests in_flight may.idle.none;
    marked = and_from (nat_lt chunk a.marks.chunks) (is_set a.marks.bytes chunk) (marked_there chunk may.marked) may.marked;
    stored = λ i on.
        let x = in_sync_is v.disks a requests i on in
        member_there a i x.0 false (λ y. nat_lt chunk a.marks.chunks && is_set y.stored.bytes chunk) x.1.member
        ∙ and_from (nat_lt chunk a.marks.chunks) (is_set x.0.stored.bytes chunk) (marked_there chunk may.marked) (may.stored i x.0 x.1);
  }

  -- what the device of a member in sync lists is in the list that is kept
  module _ (running : a.halted ≡ false) (k s : ℕ) (m : MemberView) (is : IsInSync a k m) (low : s < a.chunks.size) where
    abbrev test : Bool
    test = (world.stored k).listed s

    bad_there : test ≡ true → Lists m s
    bad_there on =
        let there = slice_get_within a.members k m is.member in
        let many = c.fits.as_many in
        let d = got_within v.disks k (omega arith) in
        let has = c.supers running k d.0 m d.1 is.member is.in_sync (honest k d.0 d.1) in
        let sector = m.superblock.data_offset + s in
        has.known sector (has.listed sector (and_parts (nat_lt s a.chunks.size) _ (sym (ap (λ (x : Stored). x.listed s) (stored_there v.disks a k m d.0 is.member d.1)) ∙ on)).1)

    pub unlisted_there : (Lists m s → ⊥) → test ≡ false
    unlisted_there not_listed = by_test test (λ on. absurd (not_listed (bad_there on))) (λ off. off)

    pub unlisted_is : world.bad k s ≡ false → Lists m s → ⊥
    unlisted_is off lists = true≢false
        (sym (and_from (nat_lt s a.chunks.size) _ (below-nat_lt s a.chunks.size low) (test_from_bad m.bad (m.superblock.data_offset + s) lists))
        ∙ sym (member_there a k m false (λ x. lists_of a x s) is.member) ∙ off)

  role_there : (k role : ℕ) (m : MemberView) → IsMember a k m → takes_role role m.state ≡ true → world.role (world.number k) ≡ role
  role_there k role m at takes = ap world.role (number_at v.disks a requests k m at) ∙ c.roles.shared k role m at takes

  pub may_copy : (from k s : ℕ) → MayCopy from k s 1 a → model.MayCopy (geometry_of a) world from k s
  may_copy from k s may =
      let source = may.source s (omega arith) (omega arith) in
      let low : s < a.chunks.size = let inside = may.inside in omega arith in
      let running = may.idle.running in
      let is = in_sync_as source.role source.member.state source.in_sync in
      let on : IsInSync a from source.member = record { member = source.at; in_sync = is.0 } in
      record {
        chunk = may_copy_chunk (s / a.chunks.sectors) (may.may s (omega arith) (omega arith));
        source = in_sync_there v.disks a requests from source.member on;
        target = in_sync_there v.disks a requests k may.target may.in_sync;
        unlisted = unlisted_there running from s source.member on low source.unlisted;
        lowest = λ j other free.
            let x = in_sync_is v.disks a requests j other in
            let role = has_role x.0.state x.1.in_sync in
            let lowest = source.lowest j role.0 x.0 x.1.member role.1 (unlisted_is running j s x.0 x.1 low free) in
            let mine = role_there from source.role source.member source.at is.1 in
            let others = role_there j role.0 x.0 x.1.member (in_sync_as role.0 x.0.state role.1).1 in
            omega arith;
      }

-- ---- a sector is copied
module _ (from k s : ℕ) (old new : MirrorView) (c : IsConsistent old) (t : CopiesSector from k s old new) where
  abbrev array : ArrayView
  array = old.array

  abbrev m : MemberView
  m = t.may.target

  at_k : IsMember array k m
  at_k = t.may.in_sync.member

  inside : s + 1 ≤ array.chunks.size
  inside = t.may.inside

  changes : ChangesMember k m m (run_write m s t.bytes) old new
  changes = record {
    at = at_k;
    like = record { superblock = refl; bad = refl; offset = refl; header = refl; chunks = refl; state = refl };
    disks = t.disks.tried;
    array = t.array ∙ (λ i. record old.array { members = sym (set_itself array.members k m at_k) i });
  }

  outside : (d e : Disk) → slice_get old.disks k ≡ Some d → slice_get new.disks k ≡ Some e → SameOutside (512 * (m.superblock.data_offset + s)) 512 d.content e.content
  outside d e before after = subst (λ (x : ℕ). SameOutside (512 * (m.superblock.data_offset + s)) x d.content e.content) t.long (t.disks.tried.outside d e before after)

  parts : (d : Disk) → slice_get old.disks k ≡ Some d → HasParts array m d.content
  parts d before = parts_of old c k d m before at_k

  keeps_super : (d e : Disk) → slice_get old.disks k ≡ Some d → slice_get new.disks k ≡ Some e → HasSuper m d → HasSuper m e
  keeps_super d e before after has =
      let block = block_beside_data array m d.content e.content (parts d before) s 1 inside (outside d e before after) in
      let log = log_beside_data array m d.content e.content (parts d before) s 1 inside (outside d e before after) in
      record {
        super = has.super;
        is = ap super_in block ∙ has.is;
        number = has.number;
        recovering = has.recovering;
        places = subst (HasPlaces m) (sym block) has.places;
        listed = still_next m.superblock d.content e.content log block has.listed;
        known = still_known m.superblock d.content e.content log has.known;
      }

  pub copied_is_consistent : IsConsistent new
  copied_is_consistent = changed_is_consistent k m m (run_write m s t.bytes) old new changes c (λ d e before after _ _ has. keeps_super d e before after has)

  module _ (d e : Disk) (before : slice_get old.disks k ≡ Some d) (after : slice_get new.disks k ≡ Some e) (honest : AreHonest old.disks) (requests : ℕ → Option Request) (in_flight : AreInFlight array requests) where
    abbrev w : World
    w = world_of old requests

    -- the bytes are those of the source
    given : (w.stored from).content s ≡ t.bytes
    given =
        let source = t.may.source s (omega arith) (omega arith) in
        let there = slice_get_within array.members from source.member source.at in
        let many = c.fits.as_many in
        let f = got_within old.disks from (omega arith) in
        ap (λ (x : Stored). x.content s) (stored_there old.disks array from source.member f.0 source.at f.1)
        ∙ ap (λ b. cond b (part f.0.content (512 * (source.member.superblock.data_offset + s)) 512) []) (below-nat_lt s array.chunks.size (let low = inside in omega arith))
        ∙ ap (part f.0.content (512 * (source.member.superblock.data_offset + s))) (sym t.long)
        ∙ t.holds f.0 source.member f.1 source.at (honest from f.0 f.1)

    sector_copied : (x : ℕ) → (stored_of array m e.content).content x ≡ put s ((w.stored from).content s) (stored_of array m d.content).content x
    sector_copied x = by_same x s
        (λ here.
        let there_is = (parts d before).placed.data_within in
        let holds = (parts d before).placed.data_holds in
        let as_large = (parts d before).size in
        let size = t.long in
        let low = inside in
        ap (stored_of array m e.content).content here
        ∙ ap (λ b. cond b (part e.content (512 * (m.superblock.data_offset + s)) 512) []) (below-nat_lt s array.chunks.size (omega arith))
        ∙ ap (λ (y : List ℕ). part y (512 * (m.superblock.data_offset + s)) 512) (t.disks.done d e before after (honest k d before))
        ∙ part-spliced d.content (512 * (m.superblock.data_offset + s)) t.bytes 512 (sym t.long) (omega arith)
        ∙ sym given
        ∙ sym (put-hit s ((w.stored from).content s) (stored_of array m d.content).content)
        ∙ ap (put s ((w.stored from).content s) (stored_of array m d.content).content) (sym here))
        (λ apart.
        data_elsewhere array m d.content e.content (parts d before) s 1 inside (outside d e before after) x (either x s apart)
        ∙ sym (put-miss s ((w.stored from).content s) (stored_of array m d.content).content x apart))
      where
        either : (x s : ℕ) → x ≢ s → (x < s) ⊎ (s + 1 ≤ x)
        either x s apart = elim (cases_lt x s) [ inl low ↦ inl low | inr high ↦ elim (cases_lt s x) [ inl above ↦ inr (omega arith) | inr same ↦ absurd (apart (omega arith)) ] ]

    stored_copied : stored_of array m e.content ≡ model.copied_device w from k s
    stored_copied =
        data_alone array m d.content e.content (parts d before) s 1 inside (outside d e before after)
        ∙ (λ i. record (stored_of array m d.content) { content = λ x. sector_copied x i })
        ∙ (λ i. let was : Stored = sym (stored_there old.disks array k m d at_k before) i in
        record was { content = put s ((w.stored from).content s) was.content })

    world_copied : world_of new requests ≡ model.copied w from k s
    world_copied =
        let due : put k m.due w.due ≡ w.due =
        ap (λ (b : _). put k b w.due) (sym (member_there array k m false (λ x. x.due) at_k)) ∙ put-self k w.due in
        let known : put k (λ x. nat_lt x array.marks.chunks && is_set m.stored.bytes x) w.known ≡ w.known =
        ap (λ (f : ℕ → _). put k f w.known) (λ i x. sym (member_there array k m false (λ y. nat_lt x array.marks.chunks && is_set y.stored.bytes x) at_k) i) ∙ put-self k w.known in
        let told : put k m.stored_offset w.stored_offset ≡ w.stored_offset =
        ap (λ o. put k o w.stored_offset) (sym (member_there array k m 0 (λ x. x.stored_offset) at_k)) ∙ put-self k w.stored_offset in
        changed_world k m m (run_write m s t.bytes) old new changes e after requests
        ∙ (λ i. record w { stored = put k (stored_copied i) w.stored; due = due i; known = known i; stored_offset = told i })

    step : Step (geometry_of array) w (Event.Copy from k s) (world_of new requests)
    step = (t.may.idle.running, (may_copy old c honest requests in_flight from k s t.may, world_copied))

  pub copy_happens : Happens old (Event.Copy from k s) new
  copy_happens honest requests in_flight =
      let low = slice_get_within array.members k m at_k in
      let as_many = c.fits.as_many in
      let many = t.disks.tried.as_many in
      let d = got_within old.disks k (omega arith) in
      let e = got_within new.disks k (omega arith) in
      let happens = step d.0 e.0 d.1 e.1 honest requests in_flight in
      record {
        honest = tried_honest k (run_write m s t.bytes) old.disks new.disks t.disks.tried honest;
        writes = (run_write m s t.bytes, t.long, t.disks);
        in_flight = changed_in_flight k m m (run_write m s t.bytes) old new changes requests in_flight;
        geometry = ap geometry_of t.array;
        step = happens;
        content = λ x y holds becomes. between_step (geometry_of array) (world_of old requests) (Event.Copy from k s) (world_of new requests) x y happens becomes holds;
        written = in_flight_step (geometry_of array) (world_of old requests) (Event.Copy from k s) (world_of new requests) happens;
        sound = copied_is_consistent;
        lists = tt;
        read = λ failed_at spoiled. changed_read k m m (run_write m s t.bytes) old new failed_at spoiled spoiled changes (λ j apart. refl)
            (λ d' e' was is. read_beside_data array m d'.content e'.content (parts d' was) s 1 inside (outside d' e' was is) failed_at (spoiled k));
      }
