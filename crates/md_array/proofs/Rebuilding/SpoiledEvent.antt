-- A write of a superblock failed on a member that is rebuilt, and left any: that is the model's event, and the mirror is as it was.
use Rattle.std.proofs.Common.{◌≡◌, ℕ, ◌*◌, ◌/◌, inl, inr, Bool, true, true≢false, List, length, slice_get, Option, Some, refl, sym, ap, ◌∙◌, subst}
use Rattle.md_device.specs.Splice.{SameOutside}
use Rattle.md_format.specs.Fields.{number_at}
use Rattle.md_kept_members.specs.View.{MemberView}
use Rattle.md_model.specs.Devices.{Stored}
use Rattle.md_model.specs.Events.{Event, Step}
use Rattle.md_model.specs.Failures.{LeftSpoiled}
use Rattle.md_model.specs.Rebuilding as model
use Rattle.md_model.specs.States as states
use Rattle.md_model.specs.Worlds.{Request}
use Rattle.md_model.proofs.Puts.{put-hit, put-miss}
use Rattle.md_state.specs.DiskWrites.{IsFailed}
use Rattle.md_state.specs.View.{ArrayView, Disk, MirrorView, geometry_of}
use Rattle.md_members.specs.DeviceWrites.Writes.{Write}
use Rattle.md_array.specs.Consistency.{IsConsistent}
use Rattle.md_array.specs.Events.{Happens, HasWriteFailed}
use Rattle.md_array.specs.ReadAsKept.{IsReadAsKept}
use Rattle.md_array.specs.Spoiling.{SpoilsTarget}
use Rattle.md_array.specs.Worlds.{block_on, kind_of, stored_of, super_in, world_of}
use Rattle.md_array.proofs.Rebuilding.FilledEvent.{rebuilt_target}
use Rattle.md_array.proofs.Rebuilding.OneDevice.{IsOnlyAt, only_does, only_left, only_world, tried_only}
use Rattle.md_array.proofs.StepLemmas.OneMember.{member_there, stored_there}
use Rattle.md_array.proofs.StepLemmas.RecordTarget.{rebuilt_recorded}
use Rattle.md_array.proofs.Worlds.Failed.{there_is}
use Rattle.md_array.proofs.Worlds.PartsApart.{HasParts, header_beside_super, parts_of, super_alone}

-- what is told of a crash within it is left out
pub has_failed : (k : ℕ) (w : Write) (before after : List Disk) → IsFailed k w before after → HasWriteFailed k w before after
has_failed k w before after is = record { tried = is.tried; failed = is.failed }

module _ (k : ℕ) (old new : MirrorView) (c : IsConsistent old) (f : SpoilsTarget k old new) where
  abbrev a : ArrayView
  a = old.array

  abbrev m : MemberView
  m = f.member

  only : IsOnlyAt k old.disks new.disks
  only = tried_only k f.write old.disks new.disks f.disks.tried

  module _ (d e : Disk) (was : slice_get old.disks k ≡ Some d) (is : slice_get new.disks k ≡ Some e) where
    parts : HasParts a m d.content
    parts = parts_of old c k d m was f.at

    outside : SameOutside (512 * 8) 4096 d.content e.content
    outside =
        subst (λ (n : ℕ). SameOutside (512 * 8) n d.content e.content) f.size
        (subst (λ (s : ℕ). SameOutside (512 * s) (length f.write.bytes) d.content e.content) f.sector (f.disks.tried.outside d e was is))

    read_spoiled : (failed_at : ℕ) (was_spoiled is_spoiled : Bool) → is_spoiled ≡ true → IsReadAsKept a m failed_at was_spoiled d.content → IsReadAsKept a m failed_at is_spoiled e.content
    read_spoiled failed_at was_spoiled is_spoiled on had = record {
      super = λ un. absurd (true≢false (sym on ∙ un));
      header = λ un. elim (had.header un) [
        | inl width ↦ inl (ap (λ (h : List ℕ). number_at 4 52 h / 512) (header_beside_super a m d.content e.content parts outside) ∙ width)
        | inr gone ↦ absurd (true≢false (sym (rebuilt_recorded m.state f.rebuilt) ∙ gone.0))
      ];
    }

    module _ (requests : ℕ → Option Request) where
      abbrev left : Stored
      left = only_left k m old new c f.at f.rebuilt f.array only requests

      left_spoiled : LeftSpoiled (world_of old requests) k left
      left_spoiled =
          let was_stored : (world_of old requests).stored k ≡ stored_of a m d.content = stored_there old.disks a k m d f.at was in
          let is_stored : left ≡ stored_of a m e.content = stored_there new.disks a k m e f.at is in
          let super_left : left.super ≡ super_in (block_on e.content) = ap (λ (s : Stored). s.super) is_stored in
          record {
            rest = is_stored ∙ super_alone a m d.content e.content parts outside
                ∙ (λ i. record (sym was_stored i) { super = sym super_left i; listed = sym (ap (λ (s : Stored). s.listed) is_stored) i });
          }

      spoil_step : Step (geometry_of a) (world_of old requests) (Event.SpoilTarget k) (world_of new requests)
      spoil_step =
          let state_is : (world_of old requests).state k ≡ kind_of m.state = member_there a k m states.State.Faulty (λ x. kind_of x.state) f.at in
          (f.running, (left, (ap model.is_target state_is ∙ rebuilt_target m.state f.rebuilt, left_spoiled, only_world k m old new c f.at f.rebuilt f.array only requests)))

pub spoil_happens : (k : ℕ) (old new : MirrorView) → IsConsistent old → SpoilsTarget k old new → Happens old (Event.SpoilTarget k) new
spoil_happens k old new c f honest requests in_flight =
    let t = there_is old k f.member f.write new.disks c f.at f.disks.tried in
    only_does k f.member old new c f.at f.rebuilt f.array (only k old new c f) requests (Event.SpoilTarget k) honest (f.write, f.disks) in_flight
    (spoil_step k old new c f t.old t.new t.was t.is requests)
    tt (λ _. refl) (λ spoiled. put-miss k true spoiled)
    (λ failed_at spoiled d e was is. read_spoiled k old new c f d e was is failed_at (spoiled k) _ (put-hit k true spoiled))
