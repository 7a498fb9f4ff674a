-- A member that is failed by a call is the model's failed one, and the mirror stays consistent: no device is used.
use Rattle.std.proofs.Common.{◌≡◌, ℕ, ◌↔◌, Bool, true, not, List, [], Option, refl, sym, ap, ◌∙◌, subst}
use Rattle.std.specs.Prelude.{MatchResult, Result, Ok, Err}
use Rattle.std.specs.List.{list_any, range_with_len}
use Rattle.std.proofs.lemmas.List.{map-set}
use Rattle.std.proofs.lemmas.Option.{same_Some}
use Rattle.md_device.specs.Splice.{SameOutside}
use Rattle.md_model.specs.States as model
use Rattle.md_model.specs.Worlds.{Request, World}
use Rattle.md_model.specs.Counts.{IsFull}
use Rattle.md_model.specs.Steps.{with_device}
use Rattle.md_model.specs.Failures as failures
use Rattle.md_model.specs.Failures.{MayFail}
use Rattle.md_model.specs.Events.{Event, Step}
use Rattle.md_model.proofs.Steps.Between.{between_step, in_flight_step}
use Rattle.md_model.proofs.Puts.{put-self}
use Rattle.md_assembly.specs.declared.state.MemberState.{MemberState}
use Rattle.md_assembly.specs.declared.state.MemberState.TheVariants.{InSync, Recovering, Stale, Spare, Faulty}
use Rattle.md_assembly.specs.States.{is_active, is_in_sync_as, is_recorded}
use Rattle.md_members.specs.DeviceWrites.Writes.{Write}
use Rattle.md_inflight.specs.Requests.Pending.{PendingView}
use Rattle.md_kept_members.specs.View.{MemberView}
use Rattle.md_kept_members.specs.Members.{made_due}
use Rattle.md_faults.specs.declared.step_fault.FailFault.{FailFault}
use Rattle.md_faults.specs.declared.step_fault.FailFault.TheVariants as fail
use Rattle.md_state.specs.DeviceChanges.{StaysHonest}
use Rattle.md_state.specs.DiskWrites.{AtDevice, IsTried}
use Rattle.md_state.specs.Members.{IsMember, is_degraded}
use Rattle.md_state.specs.View.{ArrayView, Disk, MirrorView, geometry_of}
use Rattle.md_state.specs.Steps.Rise.{failed, made_faulty, risen, without}
use Rattle.md_state.specs.Steps.Fail.{FailsMember, RefusesFail}
use Rattle.md_state.specs.Requests.{AreInFlight, IsPending}
use Rattle.md_array.specs.Consistency.{IsConsistent}
use Rattle.md_array.specs.Events.{Happens}
use Rattle.md_array.specs.Steps.Fail.{FailHappens}
use Rattle.md_array.specs.ReadAsKept.{AreReadAsKept, HasOwnSuper}
use Rattle.md_array.specs.Worlds.{AreHonest, kind_of, world_of}
use Rattle.md_array.proofs.General.Indices.{got_in_map}
use Rattle.md_array.proofs.StepLemmas.AfterFailure.{failed_is_pending, without_is_consistent}
use Rattle.md_array.proofs.StepLemmas.RemarkedWorlds.{same_mirror}
use Rattle.md_array.proofs.Worlds.InSync.{in_sync_there}
use Rattle.md_array.proofs.Worlds.ReadAsKept.{failed_read}
use Rattle.md_array.proofs.Worlds.Risen.{full_as_told, risen_is_consistent, same_degraded, world_risen}
use Rattle.md_array.proofs.Worlds.Shown.{at_is}
use Rattle.md_array.proofs.Worlds.States.{same_recorded, same_active}
use Rattle.md_array.proofs.Worlds.Without.{world_without}
use Rattle.md_state.proofs.Stays.{stays_same}

-- ---- a write of nothing, which leaves each device as it was
at_itself : (Related : Disk → Disk → Type 0) (k : ℕ) (disks : List Disk) → ((d : Disk) → Related d d) → AtDevice k disks disks Related
at_itself Related k disks same d e at there = subst (Related d) (same_Some d e (sym at ∙ there)) (same d)

abbrev no_write : Write
no_write = record { sector = 0; bytes = [] }

untried : (k : ℕ) (disks : List Disk) → IsTried k no_write disks disks
untried k disks = record {
  as_many = refl;
  others = λ j apart. refl;
  stays = at_itself StaysHonest k disks stays_same;
  outside = at_itself (λ d e. SameOutside 0 0 d.content e.content) k disks (λ d. record { size = refl; before = refl; after = refl });
}

-- ---- states
active_recorded : (s : MemberState) → is_active s ≡ true → is_recorded s ≡ true
active_recorded (InSync role) e = refl
active_recorded (Recovering role) e = refl
active_recorded (Stale role) e = absurd cc
active_recorded Spare e = absurd cc
active_recorded Faulty e = absurd cc

module _ (k : ℕ) (old new : MirrorView) (c : IsConsistent old) (fails : FailsMember k old new) where
  abbrev a : ArrayView
  a = old.array

  abbrev m : MemberView
  m = fails.array.member

  at : IsMember a k m
  at = fails.array.at

  abbrev full : Bool
  full = not (is_degraded (without a k m))

  active : is_active m.state ≡ true
  active =
      let same : fails.runs.member ≡ m = same_Some fails.runs.member m (sym fails.runs.at ∙ at) in
      sym (ap (λ (x : MemberView). is_active x.state) same) ∙ fails.runs.active

  after : MirrorView
  after = record { disks = old.disks; array = failed a k m }

  is_after : new ≡ after
  unfolding after
  is_after = same_mirror new old.disks (failed a k m) fails.disks fails.array.array

  pub fail_is_consistent : IsConsistent new
  unfolding after
  fail_is_consistent =
      let other = fails.array.other_in_sync in
      subst IsConsistent (sym is_after)
      (without_is_consistent (risen a full) k (made_due m) (got_in_map made_due a.members k m at) no_write old.disks old.disks
      fails.array.other (made_due fails.array.other_member) fails.array.apart
      (record { member = got_in_map made_due a.members fails.array.other fails.array.other_member other.member; in_sync = other.in_sync })
      (untried k old.disks) (risen_is_consistent old full c))

  pub fail_keeps_pending : (p : PendingView) → IsPending a p → IsPending new.array p
  fail_keeps_pending p = failed_is_pending k a new.array p fails.array

  -- the superblocks that become due have no part in it
  degraded_failed : is_degraded (failed a k m) ≡ is_degraded (without a k m)
  degraded_failed =
      ap (λ (members : List MemberView). list_any (λ role. not (list_any (λ x. is_in_sync_as role x.state) members)) (range_with_len 0 a.shared.raid_disks))
      (sym (map-set made_due a.members k (made_faulty m)))
      ∙ same_degraded (without a k m) full

  geometry_failed : geometry_of new.array ≡ geometry_of a
  geometry_failed = ap geometry_of fails.array.array

  module _ (requests : ℕ → Option Request) where
    abbrev before : World
    before = world_of old requests

    same_device : with_device before k (before.stored k) ≡ before
    same_device = ap (λ stored. record before { stored = stored }) (put-self k before.stored)

    world_failed : world_of new requests ≡ failures.failed (geometry_of a) (with_device before k (before.stored k)) k full
    unfolding after
    world_failed =
        ap (λ (v : MirrorView). world_of v requests) is_after
        ∙ world_without old.disks (risen a full) requests k (made_due m) (got_in_map made_due a.members k m at)
        ∙ ap (λ (x : World). failures.without x k) (world_risen a full old.disks requests)
        ∙ ap (λ (x : World). failures.failed (geometry_of a) x k full) (sym same_device)

    full_failed : (full ≡ true) ↔ IsFull (geometry_of a) (world_of new requests)
    full_failed =
        subst (λ g. (full ≡ true) ↔ IsFull g (world_of new requests)) geometry_failed
        (subst (λ b. (not b ≡ true) ↔ IsFull (geometry_of new.array) (world_of new requests)) (ap is_degraded fails.array.array ∙ degraded_failed)
        (full_as_told new.disks new.array requests fail_is_consistent.roles))

    kind_here : before.state k ≡ kind_of m.state
    kind_here = at_is a k model.State.Faulty (λ (x : MemberView). kind_of x.state) m at

    may : MayFail before k
    may = record {
      in_use = ap model.is_recorded kind_here ∙ same_recorded m.state ∙ active_recorded m.state active;
      other = fails.array.other;
      apart = fails.array.apart;
      in_sync = in_sync_there old.disks a requests fails.array.other fails.array.other_member fails.array.other_in_sync;
    }

    step : Step (geometry_of a) before (Event.Fail k) (world_of new requests)
    step = (fails.runs.running, (ap model.is_active kind_here ∙ same_active m.state ∙ active, (full, may, full_failed, world_failed)))

  abbrev KeepsSuper : Disk → Disk → Type 0
  KeepsSuper d e = HasOwnSuper a.shared m.superblock d.content → HasOwnSuper a.shared m.superblock e.content

  fail_read : (failed_at : ℕ) (spoiled : ℕ → Bool) → AreReadAsKept old failed_at spoiled → AreReadAsKept new new.array.shared.events spoiled
  unfolding after
  fail_read failed_at spoiled are =
      subst (λ (v : MirrorView). AreReadAsKept v v.array.shared.events spoiled) (sym is_after)
      (failed_read a k m no_write old.disks old.disks failed_at spoiled at (untried k old.disks) (at_itself KeepsSuper k old.disks (λ d has. has)) are)

  pub fail_happens : Happens old (Event.Fail k) new
  fail_happens honest requests listed = record {
    honest = subst AreHonest (sym fails.disks) honest;
    writes = fails.disks;
    in_flight = subst (λ (x : ArrayView). AreInFlight x requests) (sym fails.array.array) listed;
    geometry = geometry_failed;
    step = step requests;
    content = λ x y holds becomes. between_step (geometry_of a) (world_of old requests) (Event.Fail k) (world_of new requests) x y (step requests) becomes holds;
    written = in_flight_step (geometry_of a) (world_of old requests) (Event.Fail k) (world_of new requests) (step requests);
    sound = fail_is_consistent;
    lists = tt;
    read = fail_read;
  }

fail_unchanged : (k : ℕ) (old new : MirrorView) (f : FailFault) → RefusesFail k old new f → new ≡ old
fail_unchanged k old new fail.Halted r = r.unchanged
fail_unchanged k old new fail.NotActive r = r.unchanged
fail_unchanged k old new fail.LastMember r = r.unchanged
fail_unchanged k old new fail.EventsFull r = r.unchanged

-- what it keeps, and which event it is, whatever it answers
module _ (k : ℕ) (old new : MirrorView) (c : IsConsistent old) {T : Type 0} where
  abbrev Failing : Result T FailFault → Type 0
  Failing result = MatchResult result (λ _. FailsMember k old new) (RefusesFail k old new)

  pub fail_event : (result : Result T FailFault) → Failing result → FailHappens k old new result
  fail_event (Ok p) fails = fail_happens k old new c fails
  fail_event (Err f) r = tt

  pub fail_sound : (result : Result T FailFault) → Failing result → IsConsistent new
  fail_sound (Ok p) fails = fail_is_consistent k old new c fails
  fail_sound (Err f) r = subst IsConsistent (sym (fail_unchanged k old new f r)) c

  pub fail_pending : (result : Result T FailFault) → Failing result → (o : PendingView) → IsPending old.array o → IsPending new.array o
  fail_pending (Ok p) fails o = fail_keeps_pending k old new c fails o
  fail_pending (Err f) r o = subst (λ (v : MirrorView). IsPending v.array o) (sym (fail_unchanged k old new f r))
