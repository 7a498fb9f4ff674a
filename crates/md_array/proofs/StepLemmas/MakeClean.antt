-- An active array becomes clean, as the model has it.
use Rattle.std.proofs.Common.{◌≡◌, ◌↔◌, ℕ, Bool, true, not, List, [], ◌∷◌, slice_get, Option, Some, None, option_map, refl, sym, ap, ◌∙◌, subst}
use Rattle.std.specs.Prelude.{MatchResult, Result, Ok, Err}
use Rattle.std.proofs.lemmas.Bool.{ne_eqb}
use Rattle.std.proofs.lemmas.Option.{none-some}
use Rattle.md_inflight.specs.Inflight.{lookup}
use Rattle.md_model.specs.Counts as counts
use Rattle.md_model.specs.Events.{Event, Step}
use Rattle.md_model.specs.Resyncing as model
use Rattle.md_model.specs.Worlds as worlds
use Rattle.md_model.proofs.Steps.Between.{between_step, in_flight_step}
use Rattle.md_model.proofs.Cases.{by_option}
use Rattle.md_inflight.specs.declared.requests.extent.Extent.{Extent}
use Rattle.md_inflight.specs.Requests.Pending.{PendingView}
use Rattle.md_faults.specs.declared.step_fault.CleanFault.{CleanFault}
use Rattle.md_faults.specs.declared.step_fault.CleanFault.TheVariants as clean
use Rattle.md_state.specs.View.{ArrayView, MirrorView, geometry_of}
use Rattle.md_state.specs.Members.{clean_offset, is_degraded}
use Rattle.md_state.specs.Steps.Rise.{risen}
use Rattle.md_state.specs.Steps.MakeClean.{MakesClean, RefusesClean}
use Rattle.md_state.specs.Requests.{AreInFlight, IsPending}
use Rattle.md_array.specs.Consistency.{IsConsistent}
use Rattle.md_array.specs.Events.{CleanHappens, Happens}
use Rattle.md_array.specs.Worlds.{AreHonest, world_of}
use Rattle.md_array.proofs.StepLemmas.CountedAtBegin.{counted_keeps_pending}
use Rattle.md_array.proofs.Worlds.ReadAsKept.{IsSameArray, counted_like, unwritten_read}
use Rattle.md_array.proofs.StepLemmas.RemarkedWorlds.{remarked, remarked_is_consistent, same_mirror, world_remarked}
use Rattle.md_array.proofs.Worlds.Risen.{full_as_told, risen_is_consistent, same_degraded, world_risen}

-- where no request is the first, none is listed
pub none_listed : (entries : List (ℕ × Extent)) (n : ℕ) (e : Extent) → option_map (λ entry. entry.0) (slice_get entries 0) ≡ None → lookup entries n ≡ Some e → ⊥
none_listed [] n e none is = none-some e is
none_listed (entry ∷ entries) n e none is = none-some entry.0 (sym none)

module _ (old new : MirrorView) (c : IsConsistent old) (makes : MakesClean old new) where
  abbrev a : ArrayView
  a = old.array

  abbrev full : Bool
  full = not (is_degraded a)

  abbrev up : ArrayView
  up = risen a full

  up_consistent : IsConsistent (record { disks = old.disks; array = up })
  up_consistent = risen_is_consistent old full c

  after : MirrorView
  after = record { disks = old.disks; array = remarked up clean_offset up.marks up.requests refl }

  is_after : new ≡ after
  unfolding after
  is_after = same_mirror new old.disks (remarked up clean_offset up.marks up.requests refl) makes.disks makes.array

  pub clean_is_consistent : IsConsistent new
  unfolding after
  clean_is_consistent = subst IsConsistent (sym is_after)
      (remarked_is_consistent up clean_offset up.marks up.requests refl old.disks up_consistent.chunks.none_past up_consistent.inside up_consistent)

  pub clean_keeps_pending : (p : PendingView) → IsPending a p → IsPending new.array p
  clean_keeps_pending p is =
      let counted = counted_keeps_pending a full p true is in
      subst (λ (x : ArrayView). IsPending x p) (sym makes.array)
      (record { belongs = counted.belongs; extent = counted.extent; whole = counted.whole; room = counted.room })

  new_geometry : geometry_of new.array ≡ geometry_of a
  new_geometry = ap geometry_of makes.array

  still_full : is_degraded new.array ≡ is_degraded a
  still_full = ap is_degraded makes.array ∙ same_degraded a full

  same_clean : IsSameArray a new.array
  same_clean =
      let like = (counted_like a full true).0 in
      subst (IsSameArray a) (sym makes.array) (record { set_uuid = like.set_uuid; size = like.size; raid_disks = like.raid_disks; sectors = like.sectors; events = like.events })

  module _ (requests : ℕ → Option worlds.Request) (listed : AreInFlight a requests) where
    idle : (n : ℕ) → requests n ≡ None
    idle n = by_option (requests n) (λ none. none) (λ q is. absurd (none_listed a.requests.entries n (record { start = q.start; sectors = q.sectors }) makes.may.idle.none (listed n q is)))

    may : model.MayStop (world_of old requests)
    may = record { idle = idle; resynced = makes.may.resynced; active = ne_eqb _ _ makes.may.active }

    world_clean : world_of new requests ≡ model.made_clean (geometry_of a) (world_of old requests) full
    unfolding after
    world_clean =
        ap (λ (v : MirrorView). world_of v requests) is_after
        ∙ world_remarked up clean_offset up.marks up.requests refl old.disks requests
        ∙ ap (λ (w : worlds.World). record w { clean = true }) (world_risen a full old.disks requests)

    full_after : (full ≡ true) ↔ counts.IsFull (geometry_of a) (world_of new requests)
    full_after =
        subst (λ g. (full ≡ true) ↔ counts.IsFull g (world_of new requests)) new_geometry
        (subst (λ x. (not x ≡ true) ↔ counts.IsFull (geometry_of new.array) (world_of new requests)) still_full
        (full_as_told new.disks new.array requests clean_is_consistent.roles))

    step : Step (geometry_of a) (world_of old requests) Event.MakeClean (world_of new requests)
    step = (makes.may.idle.running, (full, may, full_after, world_clean))

  pub clean_happens : Happens old Event.MakeClean new
  clean_happens honest requests listed = record {
    honest = subst AreHonest (sym makes.disks) honest;
    writes = makes.disks;
    in_flight = subst (λ (x : ArrayView). AreInFlight x requests) (sym makes.array) listed;
    geometry = new_geometry;
    step = step requests listed;
    content = λ before next holds becomes. between_step (geometry_of a) (world_of old requests) Event.MakeClean (world_of new requests) before next (step requests listed) becomes holds;
    written = in_flight_step (geometry_of a) (world_of old requests) Event.MakeClean (world_of new requests) (step requests listed);
    sound = clean_is_consistent;
    lists = tt;
    read = λ failed_at spoiled. unwritten_read old new failed_at spoiled makes.disks same_clean
        (λ j m is. (counted_like a full true).1 j m (sym (ap (λ (x : ArrayView). slice_get x.members j) makes.array) ∙ is));
  }

clean_unchanged : (old new : MirrorView) (f : CleanFault) → RefusesClean old new f → new ≡ old
clean_unchanged old new clean.Halted r = r.unchanged
clean_unchanged old new (clean.InFlight n) r = r.unchanged
clean_unchanged old new clean.NotResynced r = r.unchanged
clean_unchanged old new clean.AlreadyClean r = r.unchanged
clean_unchanged old new clean.EventsFull r = r.unchanged

-- what it keeps, and which event it is, whatever it answers
module _ (old new : MirrorView) (c : IsConsistent old) {T : Type 0} where
  abbrev Cleaning : Result T CleanFault → Type 0
  Cleaning result = MatchResult result (λ _. MakesClean old new) (RefusesClean old new)

  pub clean_event : (result : Result T CleanFault) → Cleaning result → CleanHappens old new result
  clean_event (Ok p) makes = clean_happens old new c makes
  clean_event (Err f) r = tt

  pub clean_sound : (result : Result T CleanFault) → Cleaning result → IsConsistent new
  clean_sound (Ok p) makes = clean_is_consistent old new c makes
  clean_sound (Err f) r = subst IsConsistent (sym (clean_unchanged old new f r)) c

  pub clean_pending : (result : Result T CleanFault) → Cleaning result → (o : PendingView) → IsPending old.array o → IsPending new.array o
  clean_pending (Ok p) makes o = clean_keeps_pending old new c makes o
  clean_pending (Err f) r o = subst (λ (v : MirrorView). IsPending v.array o) (sym (clean_unchanged old new f r))
