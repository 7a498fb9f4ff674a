-- A member that is removed leaves the model's world with its device, and the mirror stays consistent.
use Rattle.std.proofs.Common.{◌≡◌, ℕ, ◌<◌, ◌↔◌, Bool, true, false, cond, not, length, Option, refl, sym, ap, ◌∙◌, subst, arith}
use Rattle.std.specs.List.{remove}
use Rattle.std.proofs.lemmas.Option.{slice_get_within}
use Rattle.md_model.specs.States as model
use Rattle.md_model.specs.Worlds.{Request, World}
use Rattle.md_model.specs.Counts.{IsFull}
use Rattle.md_model.specs.Events.{Event, Step}
use Rattle.md_model.specs.Membership as membership
use Rattle.md_model.specs.Membership.{MayRemove, skip}
use Rattle.md_model.proofs.Steps.Between.{between_step, in_flight_step}
use Rattle.md_assembly.specs.declared.state.MemberState.{MemberState}
use Rattle.md_assembly.specs.declared.state.MemberState.TheVariants.{InSync, Recovering, Stale, Spare, Faulty}
use Rattle.md_assembly.specs.States.{is_active, is_in_sync, is_spare, takes_role}
use Rattle.md_inflight.specs.Requests.Pending.{PendingView}
use Rattle.md_kept_members.specs.View.{MemberView}
use Rattle.md_kept_members.specs.Members.{made_due}
use Rattle.md_faults.specs.declared.step_fault.RemoveFault.{RemoveFault}
use Rattle.md_faults.specs.declared.step_fault.RemoveFault.TheVariants as fault
use Rattle.md_state.specs.Members.{IsMember, is_degraded}
use Rattle.md_state.specs.Steps.Remove.{RefusesRemove, Removes, before_leaving, taken_out, without_spare}
use Rattle.md_state.specs.View.{ArrayView, Disk, MirrorView, geometry_of}
use Rattle.md_state.specs.Steps.Rise.{risen}
use Rattle.md_state.specs.Requests.{AreInFlight, IsPending, lacks}
use Rattle.md_array.specs.Consistency.{IsConsistent}
use Rattle.md_array.specs.Events.{Happens}
use Rattle.md_array.specs.ReadAsKept.{AreReadAsKept}
use Rattle.md_array.specs.Worlds.{AreHonest, kind_of, world_of, world_on}
use Rattle.md_array.proofs.General.Indices.{got_in_map}
use Rattle.md_array.proofs.General.TakenOut.{count_left, was_at}
use Rattle.md_array.proofs.StepLemmas.CountedAtBegin.{counted_keeps_pending}
use Rattle.md_array.proofs.StepLemmas.RemarkedWorlds.{same_mirror}
use Rattle.md_array.proofs.Worlds.EntryDropped.{dropped_is_consistent, world_dropped}
use Rattle.md_array.proofs.Worlds.ReadAsKept.{IsSameArray, MembersAreOf, counted_like, unwritten_read}
use Rattle.md_array.proofs.Worlds.Risen.{full_as_told, risen_is_consistent, same_degraded, world_risen}
use Rattle.md_array.proofs.Worlds.Shown.{at_is}
use Rattle.md_array.proofs.Worlds.TakenOut.{degraded_left, left_is_consistent, read_left, world_left}
use Rattle.md_array.proofs.Worlds.States.{same_active}

-- ---- states
out_of_sync : (s : MemberState) → is_active s ≡ false → is_in_sync s ≡ false
out_of_sync (InSync role) e = absurd cc
out_of_sync (Recovering role) e = refl
out_of_sync (Stale role) e = refl
out_of_sync Spare e = refl
out_of_sync Faulty e = refl

without_role : (s : MemberState) → is_active s ≡ false → (role : ℕ) → takes_role role s ≡ false
without_role (InSync own) e role = absurd cc
without_role (Recovering own) e role = absurd cc
without_role (Stale own) e role = refl
without_role Spare e role = refl
without_role Faulty e role = refl

same_spare : (s : MemberState) → membership.is_spare (kind_of s) ≡ is_spare s
same_spare (InSync role) = refl
same_spare (Recovering role) = refl
same_spare (Stale role) = refl
same_spare Spare = refl
same_spare Faulty = refl

-- ---- the array right before the member is taken out: where it is a spare, the count has risen, and its entry is dropped
module _ (old : MirrorView) (k : ℕ) (m : MemberView) (at : IsMember old.array k m) (out : is_active m.state ≡ false) where
  abbrev a : ArrayView
  a = old.array

  abbrev full : Bool
  full = not (is_degraded a)

  abbrev up_if : Bool → ArrayView
  up_if spare = cond spare (without_spare a m) a

  abbrev due_if : Bool → MemberView
  due_if spare = cond spare (made_due m) m

  there_if : (spare : Bool) → IsMember (up_if spare) k (due_if spare)
  there_if true = got_in_map made_due a.members k m at
  there_if false = at

  out_if : (spare : Bool) → is_in_sync (due_if spare).state ≡ false
  out_if true = out_of_sync m.state out
  out_if false = out_of_sync m.state out

  low_if : (spare : Bool) → k < length (up_if spare).members
  low_if spare = slice_get_within (up_if spare).members k (due_if spare) (there_if spare)

  sound_if : IsConsistent old → (spare : Bool) → IsConsistent (record { disks = old.disks; array = up_if spare })
  sound_if c true = dropped_is_consistent (risen a full) k (made_due m) (got_in_map made_due a.members k m at) (without_role m.state out) old.disks (risen_is_consistent old full c)
  sound_if c false = c

  degraded_if : (spare : Bool) → is_degraded (up_if spare) ≡ is_degraded a
  degraded_if true = same_degraded a full
  degraded_if false = refl

  geometry_if : (spare : Bool) → geometry_of (up_if spare) ≡ geometry_of a
  geometry_if true = refl
  geometry_if false = refl

  like_if : (spare : Bool) → IsSameArray a (up_if spare) × MembersAreOf a (up_if spare)
  like_if true =
      let like = (counted_like a full true).0 in
      (record { set_uuid = like.set_uuid; size = like.size; raid_disks = like.raid_disks; sectors = like.sectors; events = like.events }, (counted_like a full true).1)
  like_if false = counted_like a full false

  pending_if : (p : PendingView) (spare : Bool) → IsPending a p → IsPending (taken_out (up_if spare) k) p
  pending_if p true is =
      let counted = counted_keeps_pending a full p true is in
      let room = counted.room in
      let fewer = count_left (lacks p) (risen a full).members k in
      record { belongs = counted.belongs; extent = counted.extent; whole = counted.whole; room = omega arith }
  pending_if p false is =
      let room = is.room in
      let fewer = count_left (lacks p) a.members k in
      record { belongs = is.belongs; extent = is.extent; whole = is.whole; room = omega arith }

  in_flight_if : (requests : ℕ → Option Request) (spare : Bool) → AreInFlight a requests → AreInFlight (taken_out (up_if spare) k) requests
  in_flight_if requests true listed = listed
  in_flight_if requests false listed = listed

  world_if : (requests : ℕ → Option Request) → IsConsistent old → (spare : Bool)
      → world_on (remove old.disks k) (taken_out (up_if spare) k) requests ≡ membership.removed (geometry_of a) (world_of old requests) k spare full
  world_if requests c true =
      world_left (up_if true) k (made_due m) (there_if true) (low_if true) (out_if true) old.disks requests (sound_if c true).roles
      ∙ ap (λ (w : World). membership.taken_out w k)
      (world_dropped (risen a full) k (made_due m) (there_if true) old.disks requests
      ∙ ap (λ (w : World). membership.without_entry w k) (world_risen a full old.disks requests))
  world_if requests c false = world_left a k m at (low_if false) (out_if false) old.disks requests c.roles

module _ (k : ℕ) (disk : Disk) (old new : MirrorView) (c : IsConsistent old) (leaves : Removes k disk old new) where
  abbrev m : MemberView
  m = leaves.array.member

  abbrev at : IsMember old.array k m
  at = leaves.array.may.at

  abbrev out : is_active m.state ≡ false
  out = leaves.array.may.out

  abbrev spare : Bool
  spare = is_spare m.state

  abbrev up : ArrayView
  up = before_leaving old.array m

  after : MirrorView
  after = record { disks = remove old.disks k; array = taken_out up k }

  is_after : new ≡ after
  unfolding after
  is_after = same_mirror new (remove old.disks k) (taken_out up k) leaves.disks leaves.array.array

  pub remove_is_consistent : IsConsistent new
  unfolding after
  remove_is_consistent =
      subst IsConsistent (sym is_after)
      (left_is_consistent up k (due_if old k m at out spare) (there_if old k m at out spare) (low_if old k m at out spare) (out_if old k m at out spare) old.disks (sound_if old k m at out c spare))

  pub remove_keeps_pending : (p : PendingView) → IsPending old.array p → IsPending new.array p
  remove_keeps_pending p is = subst (λ (x : ArrayView). IsPending x p) (sym leaves.array.array) (pending_if old k m at out p spare is)

  geometry_removed : geometry_of new.array ≡ geometry_of old.array
  geometry_removed = ap geometry_of leaves.array.array ∙ geometry_if old k m at out spare

  still_full : is_degraded new.array ≡ is_degraded old.array
  still_full =
      ap is_degraded leaves.array.array
      ∙ degraded_left up k (due_if old k m at out spare) (there_if old k m at out spare) (low_if old k m at out spare) (out_if old k m at out spare)
      ∙ degraded_if old k m at out spare

  module _ (requests : ℕ → Option Request) where
    abbrev before : World
    before = world_of old requests

    kind_here : before.state k ≡ kind_of m.state
    kind_here = at_is old.array k model.State.Faulty (λ (x : MemberView). kind_of x.state) m at

    may : MayRemove before k
    may = record {
      there = slice_get_within old.array.members k m at;
      out = ap model.is_active kind_here ∙ same_active m.state ∙ out;
    }

    told : is_spare m.state ≡ membership.is_spare (before.state k)
    told = sym (ap membership.is_spare kind_here ∙ same_spare m.state)

    world_removed : world_of new requests ≡ membership.removed (geometry_of old.array) before k (membership.is_spare (before.state k)) (not (is_degraded old.array))
    unfolding after
    world_removed =
        ap (λ (v : MirrorView). world_of v requests) is_after
        ∙ world_if old k m at out requests c spare
        ∙ ap (λ b. membership.removed (geometry_of old.array) before k b (not (is_degraded old.array))) told

    full_after : (not (is_degraded old.array) ≡ true) ↔ IsFull (geometry_of old.array) (world_of new requests)
    full_after =
        subst (λ g. (not (is_degraded old.array) ≡ true) ↔ IsFull g (world_of new requests)) geometry_removed
        (subst (λ b. (not b ≡ true) ↔ IsFull (geometry_of new.array) (world_of new requests)) still_full
        (full_as_told new.disks new.array requests remove_is_consistent.roles))

    step : Step (geometry_of old.array) before (Event.Remove k) (world_of new requests)
    step = (leaves.array.may.running, (not (is_degraded old.array), may, full_after, world_removed))

  remove_read : (failed_at : ℕ) (spoiled : ℕ → Bool) → AreReadAsKept old failed_at spoiled → AreReadAsKept new failed_at (λ j. spoiled (skip k j))
  unfolding after
  remove_read failed_at spoiled are =
      let like = like_if old k m at out spare in
      subst (λ (v : MirrorView). AreReadAsKept v failed_at (λ j. spoiled (skip k j))) (sym is_after)
      (read_left up k (due_if old k m at out spare) (there_if old k m at out spare) (low_if old k m at out spare) (out_if old k m at out spare) old.disks failed_at spoiled
      (unwritten_read old (record { disks = old.disks; array = up }) failed_at spoiled refl like.0 like.1 are))

  honest_left : AreHonest old.disks → AreHonest new.disks
  honest_left honest = subst AreHonest (sym leaves.disks) (λ j d there. honest (skip k j) d (was_at old.disks k j d there))

  pub remove_happens : Happens old (Event.Remove k) new
  remove_happens honest requests listed = record {
    honest = honest_left honest;
    writes = record { was = disk; at = leaves.device; others = leaves.disks };
    in_flight = subst (λ (x : ArrayView). AreInFlight x requests) (sym leaves.array.array) (in_flight_if old k m at out requests spare listed);
    geometry = geometry_removed;
    step = step requests;
    content = λ x y holds becomes. between_step (geometry_of old.array) (world_of old requests) (Event.Remove k) (world_of new requests) x y (step requests) becomes holds;
    written = in_flight_step (geometry_of old.array) (world_of old requests) (Event.Remove k) (world_of new requests) (step requests);
    sound = remove_is_consistent;
    lists = tt;
    read = remove_read;
  }

-- a refusal changes nothing
pub remove_unchanged : (k : ℕ) (old new : MirrorView) (f : RemoveFault) → RefusesRemove k old new f → new ≡ old
remove_unchanged k old new fault.Halted r = r.unchanged
remove_unchanged k old new fault.StillActive r = r.unchanged
remove_unchanged k old new fault.EventsFull r = r.unchanged
