-- A request that is finished leaves the list of those in flight, and nothing else changes: that is the model's event.
use Rattle.std.proofs.Common.{slice_get, ◌≡◌, ◌≢◌, ℕ, true, false, not, ◌==◌, List, Option, Some, None, refl, sym, ap, ◌∙◌, subst}
use Rattle.std.proofs.lemmas.Bool.{eqb-true, ne_eqb}
use Rattle.std.proofs.lemmas.Map.Entries.{lookup-filter-keys}
use Rattle.md_inflight.specs.Inflight.{InflightList, lookup, entries_without}
use Rattle.md_inflight.proofs.Numbers.{belongs_without}
use Rattle.md_model.specs.Events.{Event, Step}
use Rattle.md_model.specs.Sectors.{put}
use Rattle.md_model.specs.Steps as steps
use Rattle.md_model.specs.Worlds.{Request, World}
use Rattle.md_model.proofs.Steps.Between.{between_step, in_flight_step}
use Rattle.md_model.proofs.Cases.{none_some}
use Rattle.md_model.proofs.Puts.{by_same, put-hit, put-miss, put-twice}
use Rattle.md_inflight.specs.Requests.Pending.{PendingView}
use Rattle.md_inflight.specs.declared.requests.extent.Extent.{Extent}
use Rattle.md_state.specs.View.{ArrayView, MirrorView, geometry_of}
use Rattle.md_state.specs.Steps.Finish.{Finishes}
use Rattle.md_state.specs.Requests.{AreInFlight, AreInside, IsPending, among, request_of}
use Rattle.md_array.specs.Consistency.{IsConsistent}
use Rattle.md_array.specs.Events.{FinishHappens}
use Rattle.md_array.specs.Worlds.{AreHonest, world_of, world_on}
use Rattle.md_array.proofs.Worlds.ReadAsKept.{same_array, same_member, unwritten_read}
use Rattle.md_array.proofs.Worlds.InSync.{in_sync_is, number_at}
use Rattle.md_array.proofs.Worlds.Shown.{at_is}

-- ---- the list without a number
module _ {T : Type 0} (entries : List (ℕ × T)) (number : ℕ) where
  others_stay : (other : ℕ) → other ≢ number → lookup (entries_without entries number) other ≡ lookup entries other
  others_stay other apart =
      lookup-filter-keys (λ k. k == other) (λ k. not (k == number)) true
      (λ k here. ap not (ne_eqb k number (λ there. apart (sym (eqb-true k other here) ∙ there)))) entries

  it_goes : lookup (entries_without entries number) number ≡ None
  it_goes = lookup-filter-keys (λ k. k == number) (λ k. not (k == number)) false (λ k here. ap not here) entries

  -- whatever is left was there
  was_there : (other : ℕ) (item : T) → lookup (entries_without entries number) other ≡ Some item → lookup entries other ≡ Some item
  was_there other item left = by_same other number
      (λ same. absurd (none_some item (sym it_goes ∙ ap (lookup (entries_without entries number)) (sym same) ∙ left)))
      (λ apart. sym (others_stay other apart) ∙ left)

-- another list of requests, which lie within the array too
with_requests : (v : MirrorView) (list : InflightList Extent) → AreInside (record v.array { requests = list }) → IsConsistent v
    → IsConsistent (record v { array = record v.array { requests = list } })
with_requests v list inside c = record {
  fits = record {
    as_many = c.fits.as_many;
    each = λ k d m at_disk at_member. let f = c.fits.each k d m at_disk at_member in record { long = f.long; short = f.short; has = f.has; placed = f.placed; few_chunks = f.few_chunks; sound = f.sound; told = f.told };
  };
  roles = record {
    few = c.roles.few;
    numbers = c.roles.numbers;
    shared = c.roles.shared;
    below = c.roles.below;
    one_each = c.roles.one_each;
    serving = λ running. let s = c.roles.serving running in (s.0, s.1, record { member = s.2.member; in_sync = s.2.in_sync });
  };
  chunks = record {
    size = c.chunks.size;
    count = c.chunks.count;
    wide = c.chunks.wide;
    none_past = c.chunks.none_past;
    member_size = c.chunks.member_size;
    member_width = c.chunks.member_width;
    member_count = c.chunks.member_count;
  };
  inside = inside;
  supers = c.supers;
}

module _ (old new : MirrorView) (p : PendingView) (f : Finishes old new p) where
  abbrev list : InflightList Extent
  list = record old.array.requests { entries = entries_without old.array.requests.entries p.ticket.number }

  left : new ≡ record old { array = record old.array { requests = list } }
  left = λ i. record { disks = f.disks i; array = f.array i }

  pub finished_is_consistent : IsConsistent old → IsConsistent new
  finished_is_consistent c =
      subst IsConsistent (sym left) (with_requests old list (λ n e is. c.inside n e (was_there old.array.requests.entries p.ticket.number n e is)) c)

  -- the others in flight stay so
  pub finished_keeps_pending : (q : PendingView) → q.ticket.number ≢ p.ticket.number → IsPending old.array q → IsPending new.array q
  finished_keeps_pending q apart is =
      subst (λ (a : ArrayView). IsPending a q) (sym f.array) (record {
        belongs = belongs_without old.array.requests list p.ticket.number refl refl refl q.ticket apart is.belongs;
        extent = others_stay old.array.requests.entries p.ticket.number q.ticket.number apart ∙ is.extent;
        whole = is.whole;
        room = is.room;
      })

  module _ (pending : IsPending old.array p) (others : ℕ → Option Request) (in_flight : AreInFlight old.array others) where
    abbrev n : ℕ
    n = p.ticket.number

    abbrev before : World
    before = world_of old (among p others)

    still_in_flight : AreInFlight new.array (put n None others)
    still_in_flight m q is = by_same m n
        (λ same. absurd (none_some q (sym (put-hit n None others) ∙ ap (put n None others) (sym same) ∙ is)))
        (λ apart. subst (λ (a : ArrayView). lookup a.requests.entries m ≡ Some (record { start = q.start; sectors = q.sectors })) (sym f.array)
        (others_stay old.array.requests.entries n m apart ∙ in_flight m q (sym (put-miss n None others m apart) ∙ is)))

    may_finish : steps.MayFinish before n (request_of p)
    may_finish = record {
      in_flight = put-hit n (Some (request_of p)) others;
      written = λ k on. let m = in_sync_is old.disks old.array (among p others) k on in
          ap (request_of p).written (number_at old.disks old.array (among p others) k m.0 m.1.member) ∙ f.may.written k m.0 m.1;
      recorded = λ k on. let m = in_sync_is old.disks old.array (among p others) k on in
          at_is old.array k false (λ x. x.due) m.0 m.1.member ∙ f.may.recorded k m.0 m.1;
    }

    step : Step (geometry_of old.array) before (Event.Finish n) (world_of new (put n None others))
    step = (f.may.running, (request_of p, may_finish, λ i. record (world_on (f.disks i) (f.array i) others) { request = λ m. sym (put-twice n None (Some (request_of p)) others m) i }))

  pub finish_happens : IsConsistent old → IsPending old.array p → FinishHappens old new p
  finish_happens c pending honest others in_flight =
      let s = step pending others in_flight in
      record {
        honest = subst AreHonest (sym f.disks) honest;
        writes = f.disks;
        in_flight = still_in_flight pending others in_flight;
        geometry = ap geometry_of f.array;
        step = s;
        content = λ a b holds becomes. between_step (geometry_of old.array) (world_of old (among p others)) (Event.Finish p.ticket.number) (world_of new (put p.ticket.number None others)) a b s becomes holds;
        written = in_flight_step (geometry_of old.array) (world_of old (among p others)) (Event.Finish p.ticket.number) (world_of new (put p.ticket.number None others)) s;
        sound = finished_is_consistent c;
        lists = tt;
        read = λ failed_at spoiled. unwritten_read old new failed_at spoiled f.disks
            (same_array old.array new.array (ap (λ (x : ArrayView). x.shared) f.array) (ap (λ (x : ArrayView). x.chunks) f.array))
            (λ j m is. (m, sym (ap (λ (x : ArrayView). slice_get x.members j) f.array) ∙ is, same_member m));
      }
