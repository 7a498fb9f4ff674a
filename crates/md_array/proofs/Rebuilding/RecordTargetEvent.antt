-- The superblock of a member that is rebuilt could not be stored: where the write left the old one, the new one or none, that is the
-- model's event.
use Rattle.std.proofs.Common.{◌≡◌, ℕ, ◌*◌, ◌/◌, inl, inr, Bool, true≢false, List, slice_get, Option, Some, refl, sym, ap, ◌∙◌, subst}
use Rattle.std.proofs.lemmas.Option.{same_Some}
use Rattle.md_device.specs.Splice.{SameOutside}
use Rattle.md_format.specs.Fields.{number_at}
use Rattle.md_kept_members.specs.View.{MemberView}
use Rattle.md_model.specs.Devices.{Stored}
use Rattle.md_model.specs.Events.{Event, Step}
use Rattle.md_model.specs.Failures.{LeftBySuper}
use Rattle.md_model.specs.Rebuilding as model
use Rattle.md_model.specs.States as states
use Rattle.md_model.specs.Worlds.{Request}
use Rattle.md_model.proofs.Cases.{none_some}
use Rattle.md_state.specs.View.{ArrayView, Disk, MirrorView, geometry_of}
use Rattle.md_members.specs.DeviceWrites.Writes.{Write}
use Rattle.md_array.specs.Consistency.{IsConsistent}
use Rattle.md_array.specs.Events.{IsOldNewOrNone, ListsStill}
use Rattle.md_array.specs.ReadAsKept.{HasOwnSuper, IsReadAsKept}
use Rattle.md_array.specs.Steps.Record.{super_write}
use Rattle.md_array.specs.Steps.RecordTarget.{FailsOnTarget, TargetFails}
use Rattle.md_array.specs.Worlds.{block_on, kind_of, stored_of, super_in, super_of, world_of}
use Rattle.md_array.proofs.Rebuilding.FilledEvent.{rebuilt_target}
use Rattle.md_array.proofs.Rebuilding.OneDevice.{IsOnlyAt, only_does, only_left, only_world, tried_only}
use Rattle.md_array.proofs.StepLemmas.Lend.{unrebuilt}
use Rattle.md_array.proofs.StepLemmas.OneMember.{member_there, stored_there}
use Rattle.md_array.proofs.StepLemmas.ListStays.{lists_still}
use Rattle.md_array.proofs.StepLemmas.Record.{listed_written, readable_super, super_is_for}
use Rattle.md_array.proofs.Worlds.Failed.{there_is}
use Rattle.md_array.proofs.Worlds.InSync.{in_sync_of}
use Rattle.md_array.proofs.Worlds.Listed.{IsLogKept, listed_kept, listed_unread, next_kept}
use Rattle.md_array.proofs.Worlds.PartsApart.{HasParts, header_beside_super, log_beside_super, parts_of, super_alone}
use Rattle.md_array.proofs.Worlds.ReadAsKept.{own_stays, own_written}
use Rattle.md_array.proofs.Worlds.Supers.{super_shown}

module _ (k : ℕ) (old new : MirrorView) (c : IsConsistent old) (f : FailsOnTarget k old new) where
  abbrev a : ArrayView
  a = old.array

  abbrev m : MemberView
  m = f.leaves.member

  abbrev w : Write
  w = super_write a m

  only : IsOnlyAt k old.disks new.disks
  only = tried_only k w old.disks new.disks f.leaves.disks.tried

  module _ (d e : Disk) (was : slice_get old.disks k ≡ Some d) (is : slice_get new.disks k ≡ Some e) (leaves : IsOldNewOrNone w.bytes d e) where
    parts : HasParts a m d.content
    parts = parts_of old c k d m was f.leaves.may.at

    outside : SameOutside (512 * 8) 4096 d.content e.content
    outside = subst (λ (n : ℕ). SameOutside (512 * 8) n d.content e.content) f.leaves.may.readable.size (f.leaves.disks.tried.outside d e was is)

    -- a superblock that is read there is still the member's
    own_left : HasOwnSuper a.shared m.superblock d.content → HasOwnSuper a.shared m.superblock e.content
    own_left has =
        elim leaves [
          | inl same ↦ own_stays a.shared m.superblock d.content e.content same (log_beside_super a m d.content e.content parts outside) has
          | inr other ↦
              elim other [
                | inl next ↦ own_written a m e.content f.leaves.may.readable next
                | inr none ↦ λ v on. absurd (none_some (super_of v) (sym none ∙ super_shown (block_on e.content) v on.fields on.sound))
              ]
        ]

    read_left : (failed_at : ℕ) (is_spoiled : Bool) → IsReadAsKept a m failed_at is_spoiled d.content → IsReadAsKept a m failed_at is_spoiled e.content
    read_left failed_at is_spoiled had = record {
      super = λ un. own_left (had.super un);
      header = λ un. elim (had.header un) [
        | inl width ↦ inl (ap (λ (h : List ℕ). number_at 4 52 h / 512) (header_beside_super a m d.content e.content parts outside) ∙ width)
        | inr gone ↦ absurd (true≢false (sym f.leaves.may.active ∙ gone.0))
      ];
    }

    module _ (requests : ℕ → Option Request) where
      abbrev left : Stored
      left = only_left k m old new c f.leaves.may.at f.rebuilt f.leaves.array only requests

      left_by_super : LeftBySuper (world_of old requests) k left
      left_by_super =
          let was_stored : (world_of old requests).stored k ≡ stored_of a m d.content = stored_there old.disks a k m d f.leaves.may.at was in
          let is_stored : left ≡ stored_of a m e.content = stored_there new.disks a k m e f.leaves.may.at is in
          let super_left = ap (λ (s : Stored). s.super) is_stored in
          record {
            rest = is_stored ∙ super_alone a m d.content e.content parts outside
                ∙ (λ i. record (sym was_stored i) { super = sym super_left i; listed = sym (ap (λ (s : Stored). s.listed) is_stored) i });
            listed = λ on. absurd (true≢false (sym f.rebuilt ∙ unrebuilt m.state (in_sync_of old.disks a requests k m f.leaves.may.at on)));
            super = elim leaves [
              | inl same ↦ inl (super_left ∙ ap super_in same ∙ sym (ap (λ (s : Stored). s.super) was_stored))
              | inr other ↦
                  elim other [
                    | inl next ↦ inr (inl (super_left ∙ ap super_in next ∙ readable_super a m f.leaves.may.readable ∙ ap Some (super_is_for old.disks a requests k m f.leaves.may.at)))
                    | inr none ↦ inr (inr (super_left ∙ none))
                  ]
            ];
          }

      -- its log lists what it did, and is told of as before
      target_lists : ListsStill k (world_of old requests) (world_of new requests)
      target_lists =
          let log : IsLogKept m.superblock d.content e.content = log_beside_super a m d.content e.content parts outside in
          lists_still k old new c m m f.leaves.may.at (ap (λ (x : ArrayView). slice_get x.members k) f.leaves.array ∙ f.leaves.may.at) d e was is requests
          (ap (λ (x : ArrayView). x.chunks.size) f.leaves.array) refl refl
          (λ sector now next. elim leaves [
            | inl same ↦ listed_kept m.superblock d.content e.content log sector same ∙ now
            | inr other ↦
                elim other [
                  | inl written ↦ listed_written a m e.content f.leaves.may.readable written sector ∙ next_kept m.superblock d.content e.content log sector ∙ next
                  | inr none ↦ listed_unread m.superblock e.content none sector ∙ next_kept m.superblock d.content e.content log sector ∙ next
                ]
          ])

      target_step : Step (geometry_of a) (world_of old requests) (Event.RecordTargetFails k) (world_of new requests)
      target_step =
          let state_is : (world_of old requests).state k ≡ kind_of m.state = member_there a k m states.State.Faulty (λ x. kind_of x.state) f.leaves.may.at in (
            f.leaves.may.running,
            (
              left,
              (
                ap model.is_target state_is ∙ rebuilt_target m.state f.rebuilt,
                left_by_super,
                only_world k m old new c f.leaves.may.at f.rebuilt f.leaves.array only requests,
              ),
            ),
          )

  pub target_fails_happens : TargetFails k old new
  target_fails_happens n at leaves honest requests in_flight =
      let t = there_is old k m w new.disks c f.leaves.may.at f.leaves.disks.tried in
      let same : n ≡ m = same_Some n m (sym at ∙ f.leaves.may.at) in
      let whole : (d e : Disk) → slice_get old.disks k ≡ Some d → slice_get new.disks k ≡ Some e → IsOldNewOrNone w.bytes d e =
      λ d e was is. subst (λ (x : MemberView). IsOldNewOrNone (super_write a x).bytes d e) same (leaves d e was is) in
      only_does k m old new c f.leaves.may.at f.rebuilt f.leaves.array only requests (Event.RecordTargetFails k) honest (w, f.leaves.disks) in_flight
      (target_step t.old t.new t.was t.is (whole t.old t.new t.was t.is) requests)
      (target_lists t.old t.new t.was t.is (whole t.old t.new t.was t.is) requests)
      (λ _. refl) (λ spoiled j apart. refl)
      (λ failed_at spoiled d e was is. read_left d e was is (whole d e was is) failed_at (spoiled k))
