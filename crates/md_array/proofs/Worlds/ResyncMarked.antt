-- It is kept whether the array is resynced: that is the model's event.
use Rattle.std.proofs.Common.{◌≡◌, ℕ, Bool, true, false, cond, nat_lt, List, [], slice_get, Option, refl, sym, ap, ◌∙◌, subst, arith}
use Rattle.std.proofs.lemmas.Option.{slice_get_within}
use Rattle.std.proofs.lemmas.Bool.{and_parts}
use Rattle.md_array.proofs.Worlds.Noted.{noted_there}
use Rattle.md_array.specs.Consistency.{IsConsistent}
use Rattle.md_array.specs.Events.{Does, Happens, KeepsLists, WritesOnce}
use Rattle.md_array.specs.Fits.{Fits}
use Rattle.md_array.specs.Steps.NoteResynced.{AllAgreeWhereMarked, BecomesResynced, IsHonestMember, NotesResynced, sector_of, AreNoted}
use Rattle.md_array.specs.ReadAsKept.{AreReadAsKept, misread_after}
use Rattle.md_array.specs.Worlds.{AreHonest, world_of}
use Rattle.md_array.proofs.StepLemmas.OneMember.{stored_there}
use Rattle.md_array.proofs.Worlds.ReadAsKept.{same_array, same_member, unwritten_read}
use Rattle.md_array.proofs.StepLemmas.RemarkedWorlds.{same_mirror}
use Rattle.md_array.proofs.Worlds.SectorCopied.{none_there, unlisted_is}
use Rattle.md_array.proofs.Worlds.InSync.{in_sync_is}
use Rattle.md_model.specs.Devices.{Stored}
use Rattle.md_model.specs.Events.{Event, Step}
use Rattle.md_model.specs.Resyncing as model
use Rattle.md_model.specs.Runs.{failed_after}
use Rattle.md_model.specs.Worlds as worlds
use Rattle.md_model.specs.Worlds.{Request, World}
use Rattle.md_model.proofs.Steps.Between.{between_step, in_flight_step}
use Rattle.md_model.proofs.Cases.{by_test, is_below}
use Rattle.md_inflight.specs.Requests.Pending.{PendingView}
use Rattle.md_kept_members.specs.View.{MemberView}
use Rattle.md_state.specs.View.{ArrayView, Disk, MirrorView, geometry_of}
use Rattle.md_state.specs.InMemory.{HasMarksOfSize, HasRoles}
use Rattle.md_state.specs.Requests.{AreInFlight, IsPending}
use Rattle.md_assembly.proofs.Indices.{got_within}

module _ (is : Bool) (old new : MirrorView) (c : IsConsistent old) (t : NotesResynced is old new) where
  abbrev a : ArrayView
  a = old.array

  abbrev b : ArrayView
  b = record a { resynced = is }

  is_new : new ≡ record { disks = old.disks; array = b }
  is_new = same_mirror new old.disks b t.disks t.array

  fits_marked : Fits old.disks b
  fits_marked = record {
    as_many = c.fits.as_many;
    each = λ k d m at x. let fit = c.fits.each k d m at x in record { long = fit.long; short = fit.short; has = fit.has; placed = fit.placed; few_chunks = fit.few_chunks; sound = fit.sound; told = fit.told };
  }

  roles_marked : HasRoles b
  roles_marked = let r = c.roles in record {
    few = r.few;
    numbers = r.numbers;
    shared = r.shared;
    below = r.below;
    one_each = r.one_each;
    serving = λ runs. let s = r.serving runs in (s.0, s.1, record { member = s.2.member; in_sync = s.2.in_sync });
  }

  chunks_marked : HasMarksOfSize b
  chunks_marked = let h = c.chunks in record {
    size = h.size;
    count = h.count;
    wide = h.wide;
    none_past = h.none_past;
    member_size = h.member_size;
    member_width = h.member_width;
    member_count = h.member_count;
  }

  pub marked_is_consistent : IsConsistent new
  marked_is_consistent = subst IsConsistent (sym is_new)
      (record { fits = fits_marked; roles = roles_marked; chunks = chunks_marked; inside = c.inside; supers = c.supers })

  pub marked_keeps_pending : (p : PendingView) → IsPending a p → IsPending new.array p
  marked_keeps_pending p x = subst (λ (y : ArrayView). IsPending y p) (sym t.array) (record { belongs = x.belongs; extent = x.extent; whole = x.whole; room = x.room })

  pub world_marked : (requests : ℕ → Option Request) → world_of new requests ≡ model.made_resynced (world_of old requests) is
  world_marked requests = ap (λ (v : MirrorView). world_of v requests) is_new

  -- an event by which it is
  does_marking : (e : Event) → AreHonest old.disks → (requests : ℕ → Option Request) → AreInFlight a requests → new.disks ≡ old.disks
      → Step (geometry_of a) (world_of old requests) e (world_of new requests) → KeepsLists e (world_of old requests) (world_of new requests) → ((failed_at : ℕ) → failed_after e (world_of new requests) failed_at ≡ failed_at)
      → ((spoiled : ℕ → Bool) → misread_after e a (world_of old requests) spoiled ≡ spoiled)
      → WritesOnce e old.disks new.disks → Does old requests e new requests
  does_marking e honest requests in_flight same step lists after alike writes = record {
    honest = subst AreHonest (sym t.disks) honest;
    writes = writes;
    in_flight = subst (λ (x : ArrayView). AreInFlight x requests) (sym t.array) in_flight;
    geometry = ap geometry_of t.array;
    step = step;
    content = λ x y holds becomes. between_step (geometry_of a) (world_of old requests) e (world_of new requests) x y step becomes holds;
    written = in_flight_step (geometry_of a) (world_of old requests) e (world_of new requests) step;
    sound = marked_is_consistent;
    lists = lists;
    read = λ failed_at spoiled are. subst (λ n. AreReadAsKept new n (misread_after e a (world_of old requests) spoiled)) (sym (after failed_at))
        (subst (AreReadAsKept new failed_at) (sym (alike spoiled))
        (unwritten_read old new failed_at spoiled t.disks
        (same_array a new.array (ap (λ (x : ArrayView). x.shared) t.array) (ap (λ (x : ArrayView). x.chunks) t.array))
        (λ j m at. (m, sym (ap (λ (x : ArrayView). slice_get x.members j) t.array) ∙ at, same_member m)) are));
  }

  pub none_in_list : (requests : ℕ → Option Request) → AreInFlight a requests → model.IsIdle (world_of old requests)
  none_in_list requests in_flight = none_there a requests in_flight t.idle.none

pub unresynced_happens : (old new : MirrorView) → IsConsistent old → NotesResynced false old new → Happens old Event.Unresynced new
unresynced_happens old new c t honest requests in_flight =
    does_marking false old new c t Event.Unresynced honest requests in_flight t.disks
    (t.idle.running, (none_in_list false old new c t requests in_flight, world_marked false old new c t requests)) tt (λ _. refl) (λ _. refl) t.disks

-- ---- members in sync agree where marks are
module _ (old : MirrorView) (c : IsConsistent old) (running : old.array.halted ≡ false) (honest : AreHonest old.disks) (requests : ℕ → Option Request) (in_flight : AreInFlight old.array requests) (agree : AllAgreeWhereMarked old) (noted : AreNoted old.array) where
  abbrev w : World
  w = world_of old requests

  -- what a member in sync holds in a sector
  record IsHeld (k s : ℕ) : Type 0 where
    member : MemberView
    disk : Disk
    served : IsHonestMember old k member disk
    is : (w.stored k).content s ≡ cond (nat_lt s old.array.chunks.size) (sector_of member disk s) []

  held_by : (k s : ℕ) → worlds.IsInSync w k → IsHeld k s
  held_by k s on =
      let x = in_sync_is old.disks old.array requests k on in
      let there = slice_get_within old.array.members k x.0 x.1.member in
      let many = c.fits.as_many in
      let d = got_within old.disks k (omega arith) in
      record {
        member = x.0;
        disk = d.0;
        served = record { in_sync = x.1; disk = d.1; honest = honest k d.0 d.1 };
        is = ap (λ (y : Stored). y.content s) (stored_there old.disks old.array k x.0 d.0 x.1.member d.1);
      }

  pub may_resync : model.IsIdle w → model.MayResync (geometry_of old.array) w
  may_resync idle = record {
    idle = idle;
    stored = noted_there old requests noted;
    agree = λ j k s on_j on_k marked free_j free_k _ _.
        let x = held_by j s on_j in
        let y = held_by k s on_k in
        x.is
        ∙ by_test (nat_lt s old.array.chunks.size)
        (λ low.
        let below = is_below s old.array.chunks.size low in
        ap (λ (bytes : List ℕ). cond (nat_lt s old.array.chunks.size) bytes [])
        (agree s below (and_parts _ _ marked).1 j k x.member y.member x.disk y.disk x.served y.served
        (unlisted_is old c honest requests in_flight running j s x.member x.served.in_sync below free_j)
        (unlisted_is old c honest requests in_flight running k s y.member y.served.in_sync below free_k)))
        (λ past. ap (λ b. cond b (sector_of x.member x.disk s) []) past ∙ sym (ap (λ b. cond b (sector_of y.member y.disk s) []) past))
        ∙ sym y.is;
  }

pub resynced_happens : (old new : MirrorView) → IsConsistent old → BecomesResynced old new → Happens old Event.Resynced new
resynced_happens old new c t honest requests in_flight =
    let m = t.marks in
    does_marking true old new c m Event.Resynced honest requests in_flight m.disks
    (m.idle.running, (may_resync old c m.idle.running honest requests in_flight t.agree t.stored (none_in_list true old new c m requests in_flight), world_marked true old new c m requests)) tt (λ _. refl) (λ _. refl) m.disks
