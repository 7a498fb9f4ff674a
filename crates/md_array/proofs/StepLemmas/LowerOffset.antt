-- A recovering member surely has no more than what is before a sector: that is the model's event.
use Rattle.std.proofs.Common.{◌≡◌, ℕ, false, cond, ◌&&◌, ◌||◌, nat_lt, Option, sym, ap, ◌∙◌, subst}
use Rattle.std.specs.Prelude.{min}
use Rattle.md_model.specs.Events.{Event, Step}
use Rattle.md_model.specs.Sectors.{put}
use Rattle.md_model.specs.States as model
use Rattle.md_model.specs.Steps as steps
use Rattle.md_model.specs.Worlds.{Request, World}
use Rattle.md_model.proofs.Puts.{put-self}
use Rattle.md_model.proofs.Steps.Between.{between_step, in_flight_step}
use Rattle.md_assembly.specs.States.{is_recovering}
use Rattle.md_kept_members.specs.TakingBack.{lowered_member}
use Rattle.md_kept_members.specs.View.{MemberView}
use Rattle.md_inflight.specs.Requests.Pending.{PendingView}
use Rattle.md_state.specs.Requests.{AreInFlight, IsPending}
use Rattle.md_state.specs.Steps.Checkpoint.{with_member_at}
use Rattle.md_state.specs.View.{ArrayView, MirrorView, geometry_of}
use Rattle.md_array.specs.Consistency.{IsConsistent}
use Rattle.md_array.specs.Events.{Happens}
use Rattle.md_array.specs.Steps.LowerOffset.{LowersOffset}
use Rattle.md_array.specs.Worlds.{AreHonest, kind_of, world_of}
use Rattle.md_array.proofs.Rebuilding.OffsetMoved.{moved_is_consistent, moved_is_pending, moved_read, world_kept}
use Rattle.md_array.proofs.StepLemmas.OneMember.{member_there}
use Rattle.md_array.proofs.Worlds.States.{same_recovering}

module _ (k sector : ℕ) (old new : MirrorView) (c : IsConsistent old) (l : LowersOffset k sector old new) where
  abbrev a : ArrayView
  a = old.array

  abbrev m : MemberView
  m = l.lowers.member

  abbrev n : MemberView
  n = lowered_member sector m

  moved : new ≡ record old { array = with_member_at a k n }
  moved = λ i. record { disks = l.disks i; array = l.lowers.array i }

  pub lowered_is_consistent : IsConsistent new
  lowered_is_consistent = moved_is_consistent k m.offset n.superblock.recovery_offset n.due old new c m l.lowers.at moved l.lowers.recovering

  pub lowered_is_pending : (p : PendingView) → IsPending a p → IsPending new.array p
  lowered_is_pending = moved_is_pending k m.offset n.superblock.recovery_offset n.due old new c m l.lowers.at moved

  -- ---- its world
  module _ (requests : ℕ → Option Request) where
    abbrev w : World
    w = world_of old requests

    recovering_is : model.is_recovering (w.state k) ≡ is_recovering m.state
    recovering_is = ap model.is_recovering (member_there a k m model.State.Faulty (λ x. kind_of x.state) l.lowers.at) ∙ same_recovering m.state

    stored_is : w.stored_offset k ≡ m.stored_offset
    stored_is = member_there a k m 0 (λ x. x.stored_offset) l.lowers.at

    sure_is : w.sure_offset k ≡ m.superblock.recovery_offset
    sure_is = member_there a k m 0 (λ x. x.superblock.recovery_offset) l.lowers.at

    due_is : w.due k ≡ m.due
    due_is = member_there a k m false (λ x. x.due) l.lowers.at

    sure_then : n.superblock.recovery_offset ≡ steps.sure_after w sector k
    sure_then = λ i. cond (sym recovering_is i) (min (sym sure_is i) sector) (sym sure_is i)

    due_then : n.due ≡ steps.due_after w sector k
    due_then = λ i. (sym recovering_is i && nat_lt sector (sym stored_is i)) || sym due_is i

    same_offset : put k m.offset w.offset ≡ w.offset
    same_offset = ap (λ o. put k o w.offset) (sym (member_there a k m 0 (λ x. x.offset) l.lowers.at)) ∙ put-self k w.offset

    world_lowered : world_of new requests ≡ steps.lowered_on w k sector
    world_lowered =
        world_kept k m.offset n.superblock.recovery_offset n.due old new c m l.lowers.at moved requests
        ∙ (λ i. record w { due = put k (due_then i) w.due; offset = same_offset i; sure_offset = put k (sure_then i) w.sure_offset })

    step : a.halted ≡ false → Step (geometry_of a) w (Event.LowerOffset k sector) (world_of new requests)
    step running = (running, (recovering_is ∙ l.lowers.recovering, world_lowered))

  pub lower_happens : a.halted ≡ false → Happens old (Event.LowerOffset k sector) new
  lower_happens running honest requests in_flight =
      let event : Event = Event.LowerOffset k sector in
      let happens = step requests running in
      record {
        honest = subst AreHonest (sym l.disks) honest;
        writes = l.disks;
        in_flight = subst (λ (x : ArrayView). AreInFlight x requests) (sym l.lowers.array) in_flight;
        geometry = ap geometry_of l.lowers.array;
        step = happens;
        content = λ x y holds becomes. between_step (geometry_of a) (world_of old requests) event (world_of new requests) x y happens becomes holds;
        written = in_flight_step (geometry_of a) (world_of old requests) event (world_of new requests) happens;
        sound = lowered_is_consistent;
        lists = tt;
        read = λ failed_at spoiled are. moved_read k m.offset n.superblock.recovery_offset n.due old new c m l.lowers.at moved failed_at spoiled are;
      }
