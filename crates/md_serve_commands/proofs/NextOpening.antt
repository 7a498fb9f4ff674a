-- The opening after a crash of a resynced array finds the content in each sector that no request in flight touched.
use Rattle.std.proofs.Common.{◌≡◌, ◌∙◌, ◌⊎◌, ⊎_elim, inl, inr, ℕ, ◌<◌, ◌≤◌, true, false, List, [], ◌∷◌, length, None, sym, ap, subst, arith}
use Rattle.md_model.specs.Content.{Content, IsGiven}
use Rattle.md_model.specs.Crashes.{IsHalfOpened, MayStandAtCrash}
use Rattle.md_model.specs.Devices.{Stored, Super}
use Rattle.md_model.specs.Events.{Event}
use Rattle.md_model.specs.Lives.{Reopens}
use Rattle.md_model.specs.Openings.{IsWithinLimits}
use Rattle.md_model.specs.Runs.{History}
use Rattle.md_model.specs.Sectors.{Geometry}
use Rattle.md_model.specs.States.{is_in_sync}
use Rattle.md_model.specs.Worlds.{IsInSync, IsQuiet, World}
use Rattle.md_model.proofs.Cases.{none_some}
use Rattle.md_model.proofs.Lives.OpeningCovers.{slot_of}
use Rattle.md_model.proofs.Lives.Reopening.{found_own, freshest_own, is_own}
use Rattle.md_model.proofs.Lives.Safe.{leaves, safe_at_crash}
use Rattle.md_model.proofs.Puts.{by_same}
use Rattle.md_model.proofs.Steps.Keeps.{IsKept}
use Rattle.md_state.specs.View.{ArrayView, MirrorView, geometry_of}
use Rattle.md_array.specs.Worlds.{none_in_flight, super_of, world_of}
use Rattle.md_array.proofs.General.Resting.{world_rests}
use Rattle.md_laws.specs.Lives.{IsReopened}
use Rattle.md_laws.specs.Runs.{MirrorRun, Moment, history_of}
use Rattle.md_laws.proofs.Crashes.LeftAtCrashes.{IsSorted}
use Rattle.md_laws.proofs.Runs.LeftBehind.{held_along}
use Rattle.md_laws.proofs.Runs.MirrorContents.{IsHeldAt}
use Rattle.md_laws.proofs.Runs.MirrorLives.{left, reopens_there}
use Rattle.md_laws.proofs.Runs.Rests.{rests_does}
use Rattle.md_serve_commands.proofs.Settling.{settles_or_stays}

-- ---- of the model
module _ (g : Geometry) (small : IsWithinLimits g) (opened : Super) (h : History) (kept : IsKept g opened h) (first : Super) (next : World) (r : Reopens g opened h first next) where
  quiet_cut : (cut : ℕ → Stored) → MayStandAtCrash g h.now cut → (k s : ℕ) → IsQuiet h.now s → (cut k).content s ≡ (h.now.stored k).content s
  quiet_cut cut (inl same) k s quiet = ap (λ (f : ℕ → Stored). (f k).content s) same
  quiet_cut cut (inr x) k s quiet = by_same k x.on
      (λ here. subst (λ (i : ℕ). (cut i).content s ≡ (h.now.stored i).content s) (sym here) (x.outside s (quiet x.number x.request x.let_through.in_flight)))
      (λ apart. ap (λ (d : Stored). d.content s) (x.others k apart))

  given_again : (a : Content) (s : ℕ) → s < g.size → IsQuiet h.now s
      → ((k : ℕ) → IsInSync h.now k → (h.now.stored k).listed s ≡ false → (h.now.stored k).content s ≡ a s) → IsGiven next a s
  given_again a s low quiet has k on clear =
      let l = leaves g small opened h kept r.left r.is_left in
      let safe = safe_at_crash g small opened h kept r.left first r.is_left (freshest_own g opened h first next r) r.fit in
      let f = found_own g opened h first next r k on in
      let same = is_own g opened h first next r k on in
      let at : ℕ = r.opens.at k in
      let slot = slot_of g first next r.opens.opened k on in
      let half : IsHalfOpened g (r.is_left.0 at) (r.left at) =
      ⊎_elim (λ (x : IsHalfOpened g (r.is_left.0 at) (r.left at)). x) (λ (gone : (r.left at).super ≡ None). absurd (none_some f.own (sym gone ∙ f.is))) (r.is_left.2 at) in
      r.opens.content k s low slot
      ∙ ap (λ (d : Stored). d.content s) same
      ∙ ap (λ (c : ℕ → List ℕ). c s) half.content
      ∙ quiet_cut r.is_left.0 r.is_left.1 at s quiet
      ∙ has at (safe.among at f) (sym (l.listed at s f.own f.is) ∙ sym (ap (λ (d : Stored). d.listed s) same) ∙ sym (r.opens.listed k s low slot) ∙ clear)

-- ---- of a mirror
-- after one event at most the array is resynced still, or the devices are as they were
short_run : (es : List Event) → length es ≤ 1 → (t u : Moment) → MirrorRun t es u → t.mirror.array.resynced ≡ true
    → (u.mirror.array.resynced ≡ true) ⊎ ((world_of u.mirror u.requests).stored ≡ (world_of t.mirror t.requests).stored)
short_run [] few t u r before = inl (ap (λ (a : ArrayView). a.resynced) r.rests.array ∙ before)
short_run (e ∷ []) few t u r before =
    let step = (rests_does t.mirror r.0 t.requests r.1 e r.2).step in
    ⊎_elim
    (λ (settled : r.0.array.resynced ≡ true). inl (ap (λ (a : ArrayView). a.resynced) r.3.rests.array ∙ settled))
    (λ (same : (world_of r.0 r.1).stored ≡ (world_of t.mirror t.requests).stored). inr (ap (λ (w : World). w.stored) (world_rests r.0 u.mirror r.3.rests r.1) ∙ same))
    (settles_or_stays (geometry_of t.mirror.array) (world_of t.mirror t.requests) e (world_of r.0 r.1) step before)
short_run (e ∷ f ∷ es) few t u r before = absurd (omega (arith, few))

module _ (g : Geometry) (small : IsWithinLimits g) (final : MirrorView) (at_final : geometry_of final.array ≡ g) (t : Moment) (a : Content)
    (is : IsHeldAt g (super_of final.array.shared) t a) (resynced : t.mirror.array.resynced ≡ true) (next : MirrorView) (again : IsReopened final t next) where
  abbrev opened : Super
  opened = super_of final.array.shared

  abbrev first : Super
  first = super_of next.array.shared

  abbrev now : World
  now = world_of t.mirror t.requests

  abbrev w : World
  w = world_of next none_in_flight

  abbrev cut : IsSorted t again.devices.left
  cut = left t is.sound next again.before again.devices again.opens

  abbrev stop : Moment
  stop = cut.moment

  held_stop : IsHeldAt g opened stop a
  held_stop = held_along g small opened cut.events t a stop a (cut.still a) is

  reopens : Reopens g opened (history_of stop) first w
  reopens = subst (λ (x : Geometry). Reopens x opened (history_of stop) first w) is.geometry
      (reopens_there t is.sound next final (at_final ∙ sym is.geometry) (subst IsWithinLimits (sym is.geometry) small)
      (subst (λ (x : Geometry). IsKept x opened (history_of t)) (sym is.geometry) is.held.kept) again)

  quiet_stop : (s : ℕ) → IsQuiet now s → IsQuiet (history_of stop).now s
  quiet_stop s quiet n p at = quiet n p (sym (cut.memory.request n) ∙ at)

  rest_at_stop : (s : ℕ) → s < g.size → IsQuiet now s → (k : ℕ) → IsInSync (history_of stop).now k → ((history_of stop).now.stored k).listed s ≡ false
      → ((history_of stop).now.stored k).content s ≡ a s
  rest_at_stop s low quiet k on clear = elim (short_run cut.events cut.few t stop cut.run resynced) [
    | inl settled ↦ held_stop.held.holds.at_rest k s low on clear (quiet_stop s quiet) (inl settled)
    | inr same ↦
        ap (λ (f : ℕ → Stored). (f k).content s) same
        ∙ is.held.holds.at_rest k s low (sym (ap is_in_sync (cut.memory.state k)) ∙ on) (sym (ap (λ (f : ℕ → Stored). (f k).listed s) same) ∙ clear) quiet (inl resynced)
  ]

  pub given_next : (s : ℕ) → s < g.size → IsQuiet now s → IsGiven w a s
  given_next s low quiet = given_again g small opened (history_of stop) held_stop.held.kept first w reopens a s low (quiet_stop s quiet) (rest_at_stop s low quiet)
