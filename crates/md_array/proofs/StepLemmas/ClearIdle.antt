-- A mark goes from memory, as the model has it.
use Rattle.std.proofs.Common.{slice_get, ◌≡◌, ℕ, ◌+◌, ◌-◌, ◌*◌, ◌/◌, ◌<◌, ◌≤◌, inl, inr, Bool, true, false, cond, not, ◌&&◌, ◌==◌, nat_lt, true≢false, Option, Some, min, refl, sym, ap, ◌∙◌, subst, arith, lt-ltb}
use Rattle.std.proofs.Math.Nat.{add-mul, div-mul-le_self, lt-div-mul-add}
use Rattle.std.proofs.Math.Bool.{and-false}
use Rattle.std.proofs.lemmas.Bool.{cases_lt, and_from}
use Rattle.md_model.specs.Worlds as worlds
use Rattle.md_model.specs.Events.{Event, Step}
use Rattle.md_model.specs.Steps as steps
use Rattle.md_model.proofs.Steps.Between.{between_step, in_flight_step}
use Rattle.md_bitmap.specs.Marks.{is_set}
use Rattle.md_inflight.specs.Requests.Pending.{PendingView}
use Rattle.md_state.specs.View.{ArrayView, MirrorView, geometry_of}
use Rattle.md_state.specs.Steps.ClearIdle.{Clears}
use Rattle.md_state.specs.Requests.{AreInFlight, IsPending}
use Rattle.md_array.specs.Consistency.{IsConsistent}
use Rattle.md_array.specs.Events.{Happens}
use Rattle.md_array.specs.Worlds.{AreHonest, world_of}
use Rattle.md_array.proofs.Worlds.ReadAsKept.{same_array, same_member, unwritten_read}
use Rattle.md_array.proofs.StepLemmas.InFlight.{is_touched, none_touches}
use Rattle.md_array.proofs.StepLemmas.RemarkedWorlds.{remarked, remarked_is_consistent, same_mirror, world_remarked}
use Rattle.md_array.proofs.Worlds.Risen.{full_when_not_degraded}

-- the sectors of a chunk, by a division
module _ (c w s : ℕ) (wide : 0 < w) (in_chunk : s / w ≡ c) where
  chunk_from : c * w ≤ s
  chunk_from = subst (λ x. x * w ≤ s) in_chunk (div-mul-le_self s w)

  chunk_below : s < (c + 1) * w
  chunk_below =
      let below : s < c * w + w = subst (λ x. s < x * w + w) in_chunk (lt-div-mul-add wide) in
      let parts = add-mul c 1 w in
      omega arith

module _ (chunk : ℕ) (old new : MirrorView) (c : IsConsistent old) (clears : Clears chunk old new) where
  abbrev a : ArrayView
  a = old.array

  after : MirrorView
  after = record { disks = old.disks; array = remarked a a.shared.resync_offset new.array.marks a.requests clears.left.chunks }

  is_after : new ≡ after
  unfolding after
  is_after = same_mirror new old.disks (remarked a a.shared.resync_offset new.array.marks a.requests clears.left.chunks) clears.disks clears.array

  none_past : (d : ℕ) → new.array.marks.chunks ≤ d → is_set new.array.marks.bytes d ≡ false
  none_past d past =
      clears.left.bits d ∙ ap (λ b. not (d == chunk) && b) (c.chunks.none_past d (let same = clears.left.chunks in omega arith)) ∙ and-false (not (d == chunk))

  pub cleared_is_consistent : IsConsistent new
  unfolding after
  cleared_is_consistent = subst IsConsistent (sym is_after)
      (remarked_is_consistent a a.shared.resync_offset new.array.marks a.requests clears.left.chunks old.disks none_past c.inside c)

  pub cleared_keeps_pending : (p : PendingView) → IsPending a p → IsPending new.array p
  cleared_keeps_pending p is = subst (λ (x : ArrayView). IsPending x p) (sym clears.array)
      (record { belongs = is.belongs; extent = is.extent; whole = is.whole; room = is.room })

  -- the mark is of a chunk of the array
  in_range : chunk < a.marks.chunks
  in_range = elim (cases_lt chunk a.marks.chunks) [
    | inl low ↦ low
    | inr past ↦ absurd (true≢false (sym clears.may.marked ∙ c.chunks.none_past chunk past))
  ]

  module _ (requests : ℕ → Option worlds.Request) (listed : AreInFlight a requests) where
    idle : (n : ℕ) (p : worlds.Request) → requests n ≡ Some p → (s : ℕ) → worlds.touches p s ≡ true → s / a.chunks.sectors ≡ chunk → ⊥
    idle n p is s touched same =
        let w = a.chunks.sectors in
        let within = is_touched p s touched in
        let inside = c.inside n (record { start = p.start; sectors = p.sectors }) (listed n p is) in
        let from = chunk_from chunk w s c.chunks.wide same in
        let below = chunk_below chunk w s c.chunks.wide same in
        let in_array : s < a.chunks.size = omega (arith, within.1, inside.1) in
        none_touches a requests listed (chunk * w) (min ((chunk + 1) * w) a.chunks.size - chunk * w) clears.may.idle n p is s touched from (omega arith)

    may : steps.MayClear (geometry_of a) (world_of old requests) chunk
    may = record {
      resynced = clears.may.ready.resynced;
      full = (full_when_not_degraded old.disks a requests c.roles).0 clears.may.ready.full;
      idle = idle;
      marked = and_from (nat_lt chunk a.marks.chunks) (is_set a.marks.bytes chunk) (lt-ltb chunk a.marks.chunks in_range) clears.may.marked;
    }

    unmarked_at : (m x y : Bool) → (m && (not x && y)) ≡ cond x false (m && y)
    unmarked_at true true y = refl
    unmarked_at true false y = refl
    unmarked_at false true y = refl
    unmarked_at false false y = refl

    world_cleared : world_of new requests ≡ steps.unmarked (world_of old requests) chunk
    unfolding after
    world_cleared =
        ap (λ (v : MirrorView). world_of v requests) is_after
        ∙ world_remarked a a.shared.resync_offset new.array.marks a.requests clears.left.chunks old.disks requests
        ∙ (λ i. record (world_of old requests) {
          marks = λ d. (ap (λ b. nat_lt d a.marks.chunks && b) (clears.left.bits d) ∙ unmarked_at (nat_lt d a.marks.chunks) (d == chunk) (is_set a.marks.bytes d)) i;
        })

    step : Step (geometry_of a) (world_of old requests) (Event.ClearIdle chunk) (world_of new requests)
    step = (clears.may.ready.running, (may, world_cleared))

  pub clear_idle_happens : Happens old (Event.ClearIdle chunk) new
  clear_idle_happens honest requests listed = record {
    honest = subst AreHonest (sym clears.disks) honest;
    writes = clears.disks;
    in_flight = subst (λ (x : ArrayView). AreInFlight x requests) (sym clears.array) listed;
    geometry = ap geometry_of clears.array;
    step = step requests listed;
    content = λ before next holds becomes. between_step (geometry_of a) (world_of old requests) (Event.ClearIdle chunk) (world_of new requests) before next (step requests listed) becomes holds;
    written = in_flight_step (geometry_of a) (world_of old requests) (Event.ClearIdle chunk) (world_of new requests) (step requests listed);
    sound = cleared_is_consistent;
    lists = tt;
    read = λ failed_at spoiled. unwritten_read old new failed_at spoiled clears.disks
        (same_array a new.array (ap (λ (x : ArrayView). x.shared) clears.array) (ap (λ (x : ArrayView). x.chunks) clears.array))
        (λ j m is. (m, sym (ap (λ (x : ArrayView). slice_get x.members j) clears.array) ∙ is, same_member m));
  }
