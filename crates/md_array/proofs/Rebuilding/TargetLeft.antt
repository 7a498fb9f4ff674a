-- A write of a new superblock failed on a member that is rebuilt. Where it left the old one or none that is the model's event, and whatever it
-- left that is another. The mirror is as it was.
use Rattle.std.proofs.Common.{◌≡◌, ℕ, ◌*◌, ◌/◌, inl, inr, Bool, true, false, true≢false, List, slice_get, Option, Some, refl, sym, ap, ◌∙◌, subst}
use Rattle.md_device.specs.Splice.{SameOutside}
use Rattle.md_format.specs.Fields.{number_at}
use Rattle.md_kept_members.specs.View.{MemberView}
use Rattle.md_model.specs.Devices.{Stored}
use Rattle.md_model.specs.Events.{Event, Step}
use Rattle.md_model.specs.Failures.{LeftBySuper}
use Rattle.md_model.specs.Rebuilding as model
use Rattle.md_model.specs.States as states
use Rattle.md_model.specs.Worlds.{Request}
use Rattle.md_model.proofs.Cases.{none_some}
use Rattle.md_inflight.specs.Requests.Pending.{PendingView}
use Rattle.md_kept_members.specs.OnDevices.Superblocks.{IsReadable, own_write}
use Rattle.md_state.specs.DiskWrites.{IsFailed}
use Rattle.md_state.specs.Members.{IsMember}
use Rattle.md_state.specs.Missing.{is_rebuilt}
use Rattle.md_state.specs.Requests.{IsPending}
use Rattle.md_state.specs.View.{ArrayView, Disk, MirrorView, geometry_of}
use Rattle.md_super.specs.declared.superblock.Superblock.{Superblock}
use Rattle.md_super.specs.Merge.{merged}
use Rattle.md_members.specs.DeviceWrites.Writes.{Write}
use Rattle.md_array.specs.Steps.Admit.{FailsAsTarget, FailsOnTargetAlone, IsOldOrNone}
use Rattle.md_array.specs.Consistency.{IsConsistent}
use Rattle.md_array.specs.Events.{ListsStill}
use Rattle.md_array.specs.ReadAsKept.{HasOwnSuper, IsReadAsKept}
use Rattle.md_array.specs.Worlds.{block_on, kind_of, stored_of, super_in, super_of, world_of}
use Rattle.md_array.proofs.Rebuilding.FilledEvent.{rebuilt_target}
use Rattle.md_array.proofs.Rebuilding.OneDevice.{IsOnlyAt, only_does, only_is_consistent, only_left, only_world, tried_only}
use Rattle.md_array.proofs.StepLemmas.Lend.{unrebuilt}
use Rattle.md_array.proofs.StepLemmas.OneMember.{member_there, stored_there}
use Rattle.md_array.proofs.StepLemmas.ListStays.{lists_still}
use Rattle.md_array.proofs.StepLemmas.RecordTarget.{rebuilt_recorded}
use Rattle.md_array.proofs.Worlds.Failed.{there_is}
use Rattle.md_array.proofs.Worlds.InSync.{in_sync_of}
use Rattle.md_array.proofs.Worlds.Listed.{IsLogKept, listed_kept, listed_unread, next_kept}
use Rattle.md_array.proofs.Worlds.PartsApart.{HasParts, header_beside_super, log_beside_super, parts_of, super_alone}
use Rattle.md_array.proofs.Worlds.ReadAsKept.{own_stays}
use Rattle.md_array.proofs.Worlds.Supers.{super_shown}
use Rattle.md_array.specs.Spoiling.{SpoilsTarget}
use Rattle.md_array.proofs.Rebuilding.SpoiledEvent.{has_failed, spoil_happens}

module _ (k : ℕ) (old new : MirrorView) (c : IsConsistent old) (running : old.array.halted ≡ false) (m : MemberView) (at : IsMember old.array k m) (rebuilt : is_rebuilt m.state ≡ true)
    (array : new.array ≡ old.array) (shared own : Superblock) (readable : IsReadable (merged shared own)) (disks : IsFailed k (own_write shared own) old.disks new.disks) where
  abbrev a : ArrayView
  a = old.array

  abbrev w : Write
  w = own_write shared own

  only : IsOnlyAt k old.disks new.disks
  only = tried_only k w old.disks new.disks disks.tried

  pub left_is_consistent : IsConsistent new
  left_is_consistent = only_is_consistent k m old new c at rebuilt array only

  pub left_is_pending : (p : PendingView) → IsPending old.array p → IsPending new.array p
  left_is_pending p is = subst (λ (x : ArrayView). IsPending x p) (sym array) is

  module _ (d e : Disk) (was : slice_get old.disks k ≡ Some d) (is : slice_get new.disks k ≡ Some e) (leaves : IsOldOrNone d e) where
    parts : HasParts a m d.content
    parts = parts_of old c k d m was at

    outside : SameOutside (512 * 8) 4096 d.content e.content
    outside = subst (λ (n : ℕ). SameOutside (512 * 8) n d.content e.content) readable.size (disks.tried.outside d e was is)

    -- a superblock that is read there is still the member's
    own_left : HasOwnSuper a.shared m.superblock d.content → HasOwnSuper a.shared m.superblock e.content
    own_left has = elim leaves [
      | inl same ↦ own_stays a.shared m.superblock d.content e.content same (log_beside_super a m d.content e.content parts outside) has
      | inr none ↦ λ v on. absurd (none_some (super_of v) (sym none ∙ super_shown (block_on e.content) v on.fields on.sound))
    ]

    read_left : (failed_at : ℕ) (is_spoiled : Bool) → IsReadAsKept a m failed_at is_spoiled d.content → IsReadAsKept a m failed_at is_spoiled e.content
    read_left failed_at is_spoiled had = record {
      super = λ un. own_left (had.super un);
      header = λ un. elim (had.header un) [
        | inl width ↦ inl (ap (λ (h : List ℕ). number_at 4 52 h / 512) (header_beside_super a m d.content e.content parts outside) ∙ width)
        | inr gone ↦ absurd (true≢false (sym (rebuilt_recorded m.state rebuilt) ∙ gone.0))
      ];
    }

    module _ (requests : ℕ → Option Request) where
      abbrev left : Stored
      left = only_left k m old new c at rebuilt array only requests

      left_by_super : LeftBySuper (world_of old requests) k left
      left_by_super =
          let was_stored : (world_of old requests).stored k ≡ stored_of a m d.content = stored_there old.disks a k m d at was in
          let is_stored : left ≡ stored_of a m e.content = stored_there new.disks a k m e at is in
          let super_left = ap (λ (s : Stored). s.super) is_stored in
          record {
            rest = is_stored ∙ super_alone a m d.content e.content parts outside
                ∙ (λ i. record (sym was_stored i) { super = sym super_left i; listed = sym (ap (λ (s : Stored). s.listed) is_stored) i });
            listed = λ on. absurd (true≢false (sym rebuilt ∙ unrebuilt m.state (in_sync_of old.disks a requests k m at on)));
            super = elim leaves [
              | inl same ↦ inl (super_left ∙ ap super_in same ∙ sym (ap (λ (s : Stored). s.super) was_stored))
              | inr none ↦ inr (inr (super_left ∙ none))
            ];
          }

      -- its log lists what it did, and is told of as before
      left_lists : ListsStill k (world_of old requests) (world_of new requests)
      left_lists =
          let log : IsLogKept m.superblock d.content e.content = log_beside_super a m d.content e.content parts outside in
          lists_still k old new c m m at (ap (λ (x : ArrayView). slice_get x.members k) array ∙ at) d e was is requests
          (ap (λ (x : ArrayView). x.chunks.size) array) refl refl
          (λ sector now next. elim leaves [
            | inl same ↦ listed_kept m.superblock d.content e.content log sector same ∙ now
            | inr none ↦ listed_unread m.superblock e.content none sector ∙ next_kept m.superblock d.content e.content log sector ∙ next
          ])

      left_step : Step (geometry_of a) (world_of old requests) (Event.RecordTargetFails k) (world_of new requests)
      left_step =
          let state_is : (world_of old requests).state k ≡ kind_of m.state = member_there a k m states.State.Faulty (λ x. kind_of x.state) at in
          (running, (left, (ap model.is_target state_is ∙ rebuilt_target m.state rebuilt, left_by_super, only_world k m old new c at rebuilt array only requests)))

  pub left_happens : FailsOnTargetAlone k old new
  left_happens leaves honest requests in_flight =
      let t = there_is old k m w new.disks c at disks.tried in
      only_does k m old new c at rebuilt array only requests (Event.RecordTargetFails k) honest (w, disks) in_flight
      (left_step t.old t.new t.was t.is (leaves t.old t.new t.was t.is) requests)
      (left_lists t.old t.new t.was t.is (leaves t.old t.new t.was t.is) requests)
      (λ _. refl) (λ spoiled j apart. refl)
      (λ failed_at spoiled d e was is. read_left d e was is (leaves d e was is) failed_at (spoiled k))

  -- whatever it left, the member is spoiled
  pub left_spoils : SpoilsTarget k old new
  left_spoils = record {
    member = m;
    at = at;
    rebuilt = rebuilt;
    running = running;
    array = array;
    write = w;
    sector = refl;
    size = readable.size;
    disks = has_failed k w old.disks new.disks disks;
  }

  pub left_as_target : FailsAsTarget k old new
  left_as_target = (left_happens, spoil_happens k old new c left_spoils)
