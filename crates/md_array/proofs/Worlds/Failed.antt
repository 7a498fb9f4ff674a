-- A member that failed by a write is the model's failed one, whatever the write left of its device.
use Rattle.std.proofs.Common.{◌≡◌, ℕ, ◌+◌, ◌↔◌, Bool, true, not, List, slice_get, Some, Option, sym, ap, ◌∙◌, subst, arith}
use Rattle.std.specs.List.{list_any, range_with_len}
use Rattle.std.proofs.lemmas.List.{map-set}
use Rattle.std.proofs.lemmas.Option.{same_Some, slice_get_within}
use Rattle.md_model.specs.States as model
use Rattle.md_model.specs.Devices.{Stored}
use Rattle.md_model.specs.Worlds.{Request, World}
use Rattle.md_model.specs.Counts.{IsFull}
use Rattle.md_model.specs.Steps.{with_device}
use Rattle.md_model.specs.Failures as failures
use Rattle.md_model.specs.Failures.{MayFail}
use Rattle.md_model.specs.Events as events
use Rattle.md_model.specs.Events.{Event, Step}
use Rattle.md_model.specs.Runs.{failed_after}
use Rattle.md_model.proofs.Steps.Between.{between_step, in_flight_step}
use Rattle.md_members.specs.DeviceWrites.Writes.{Write}
use Rattle.md_kept_members.specs.View.{MemberView}
use Rattle.md_kept_members.specs.Members.{made_due}
use Rattle.md_assembly.specs.States.{is_in_sync_as, is_recorded}
use Rattle.md_assembly.proofs.Indices.{got_within}
use Rattle.md_state.specs.Members.{IsMember, is_degraded}
use Rattle.md_state.specs.View.{ArrayView, Disk, MirrorView, geometry_of}
use Rattle.md_state.specs.Steps.Rise.{failed, made_faulty, risen, without}
use Rattle.md_state.specs.DiskWrites.{AtDevice, IsTried}
use Rattle.md_state.specs.Requests.{AreInFlight}
use Rattle.md_state.specs.Trying.{FailsWriting}
use Rattle.md_array.specs.Consistency.{IsConsistent}
use Rattle.md_array.specs.Events.{Does, KeepsLists, WritesOnce}
use Rattle.md_array.specs.ReadAsKept.{AreReadAsKept, HasOwnSuper, misread_after}
use Rattle.md_array.specs.Worlds.{AreHonest, kind_of, world_of, world_on}
use Rattle.md_array.proofs.General.Honesty.{tried_honest}
use Rattle.md_array.proofs.StepLemmas.AfterFailure.{failed_is_consistent}
use Rattle.md_array.proofs.StepLemmas.OneMember.{member_there}
use Rattle.md_array.proofs.Worlds.ReadAsKept.{failed_read}
use Rattle.md_array.proofs.Worlds.InSync.{in_sync_there}
use Rattle.md_array.proofs.General.Indices.{got_in_map}
use Rattle.md_array.proofs.Worlds.Risen.{full_as_told, same_degraded, world_risen}
use Rattle.md_array.proofs.Worlds.States.{same_recorded}
use Rattle.md_array.proofs.Worlds.Without.{world_with_device, world_without}

-- a device of a mirror before and after a write
pub record IsThere (k : ℕ) (before after : List Disk) : Type 0 where
  pub old : Disk
  pub new : Disk
  pub was : slice_get before k ≡ Some old
  pub is : slice_get after k ≡ Some new

pub there_is : (v : MirrorView) (k : ℕ) (m : MemberView) (w : Write) (after : List Disk) → IsConsistent v → IsMember v.array k m → IsTried k w v.disks after → IsThere k v.disks after
there_is v k m w after c at tried =
    let low = slice_get_within v.array.members k m at in
    let as_many = c.fits.as_many in
    let many = tried.as_many in
    let d = got_within v.disks k (omega arith) in
    let e = got_within after k (omega arith) in
    record { old = d.0; new = e.0; was = d.1; is = e.1 }

module _ (k : ℕ) (w : Write) (old new : MirrorView) (is : IsConsistent old) (fails : FailsWriting k w old new) (m : MemberView) (at : IsMember old.array k m) where
  abbrev a : ArrayView
  a = old.array

  abbrev full : Bool
  full = not (is_degraded (without a k m))

  array_failed : new.array ≡ failed a k m
  array_failed = fails.array.array ∙ ap (failed a k) (same_Some fails.array.member m (sym fails.array.at ∙ at))

  -- the superblocks that become due have no part in it
  degraded_failed : is_degraded (failed a k m) ≡ is_degraded (without a k m)
  degraded_failed =
      ap (λ (members : List MemberView). list_any (λ role. not (list_any (λ x. is_in_sync_as role x.state) members)) (range_with_len 0 a.shared.raid_disks))
      (sym (map-set made_due a.members k (made_faulty m)))
      ∙ same_degraded (without a k m) full

  geometry_failed : geometry_of new.array ≡ geometry_of a
  geometry_failed = ap geometry_of array_failed

  module _ (requests : ℕ → Option Request) where
    abbrev before : World
    before = world_of old requests

    -- what is left of the device
    abbrev pub left : Stored
    left = (world_on new.disks a requests).stored k

    world_failed : world_of new requests ≡ failures.failed (geometry_of a) (with_device before k left) k full
    world_failed =
        ap (λ (x : ArrayView). world_on new.disks x requests) array_failed
        ∙ world_without new.disks (risen a full) requests k (made_due m) (got_in_map made_due a.members k m at)
        ∙ ap (λ (x : World). failures.without x k) (world_risen a full new.disks requests)
        ∙ ap (λ (x : World). failures.failed (geometry_of a) x k full) (world_with_device old.disks new.disks a requests k fails.disks.tried.others)

    full_failed : (full ≡ true) ↔ IsFull (geometry_of a) (world_of new requests)
    full_failed =
        subst (λ g. (full ≡ true) ↔ IsFull g (world_of new requests)) geometry_failed
        (subst (λ b. (not b ≡ true) ↔ IsFull (geometry_of new.array) (world_of new requests)) (ap is_degraded array_failed ∙ degraded_failed)
        (full_as_told new.disks new.array requests (failed_is_consistent k w old new is fails).roles))

    module _ (active : is_recorded m.state ≡ true) where
      may_fail : MayFail before k
      may_fail = record {
        in_use = ap model.is_recorded (member_there a k m model.State.Faulty (λ x. kind_of x.state) at) ∙ same_recorded m.state ∙ active;
        other = fails.array.other;
        apart = fails.array.apart;
        in_sync = in_sync_there old.disks a requests fails.array.other fails.array.other_member fails.array.other_in_sync;
      }

      pub member_fails : events.Fails (geometry_of a) before k left (world_of new requests)
      member_fails = (full, may_fail, full_failed, world_failed)

    -- by such an event the mirror goes to its next world
    pub does_failing : (e : Event) → AreHonest old.disks → WritesOnce e old.disks new.disks → AreInFlight a requests → Step (geometry_of a) before e (world_of new requests) → KeepsLists e before (world_of new requests)
        → ((failed_at : ℕ) → failed_after e (world_of new requests) failed_at ≡ new.array.shared.events)
        → ((spoiled : ℕ → Bool) → misread_after e a before spoiled ≡ spoiled)
        → AtDevice k old.disks new.disks (λ d n. HasOwnSuper a.shared m.superblock d.content → HasOwnSuper a.shared m.superblock n.content)
        → Does old requests e new requests
    does_failing e honest writes in_flight step lists after same keeps = record {
      honest = tried_honest k w old.disks new.disks fails.disks.tried honest;
      writes = writes;
      in_flight = subst (λ (x : ArrayView). AreInFlight x requests) (sym array_failed) in_flight;
      geometry = geometry_failed;
      step = step;
      content = λ x y holds becomes. between_step (geometry_of a) before e (world_of new requests) x y step becomes holds;
      written = in_flight_step (geometry_of a) before e (world_of new requests) step;
      sound = failed_is_consistent k w old new is fails;
      lists = lists;
      read = λ failed_at spoiled are.
          let then = misread_after e a before spoiled in
          subst (λ n. AreReadAsKept new n then) (sym (after failed_at ∙ ap (λ (x : ArrayView). x.shared.events) array_failed))
          (subst (λ (s : ℕ → Bool). AreReadAsKept new (a.shared.events + 1) s) (sym (same spoiled))
          (subst (λ (x : ArrayView). AreReadAsKept (record { disks = new.disks; array = x }) (a.shared.events + 1) spoiled) (sym array_failed)
          (failed_read a k m w old.disks new.disks failed_at spoiled at fails.disks.tried keeps are)));
    }
