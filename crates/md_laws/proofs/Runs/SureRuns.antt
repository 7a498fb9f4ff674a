-- What superblocks of recovering members say that they have, they have, at each moment of each life.
use Rattle.std.proofs.Common.{◌≡◌, ℕ, ◌<◌, inl, inr, false, List, [], ◌∷◌, Option, refl, sym, ap, ◌∙◌, subst}
use Rattle.md_model.specs.Sectors.{Geometry}
use Rattle.md_model.specs.Devices.{Stored, Super}
use Rattle.md_model.specs.Content.{Content, Becomes, BecomesAtOpening}
use Rattle.md_model.specs.Crashes as crashes
use Rattle.md_model.specs.Events.{Event}
use Rattle.md_model.specs.Openings.{IsWithinLimits}
use Rattle.md_model.specs.Recovering.{JoinsBehind}
use Rattle.md_model.specs.SureOffsets.{ListsSaid, OpensSure}
use Rattle.md_model.specs.Worlds.{Request, World}
use Rattle.md_model.proofs.Content.SureEvents.{sure_event}
use Rattle.md_model.proofs.Content.SureLives.{IsSureResumed, sure_opened, sure_reopened}
use Rattle.md_model.proofs.Content.SureSteps.{IsSure}
use Rattle.md_state.specs.View.{MirrorView, geometry_of}
use Rattle.md_array.specs.Worlds.{none_in_flight, super_of, world_of}
use Rattle.md_laws.specs.Lives.{IsReopened, MirrorLifeWith}
use Rattle.md_laws.specs.Recovering.{MirrorKeepsSure, MirrorLifeJoins, MirrorLifeOpensSure, MirrorOpensSure, MirrorRunJoins}
use Rattle.md_laws.specs.Runs.{HasRested, MirrorRunWith, Moment, RestsThenDoes, history_of, opened_as, then_as}
use Rattle.md_laws.proofs.Crashes.LeftAtCrashes.{IsSorted, KeepsMemory}
use Rattle.md_laws.proofs.Crashes.LeftContents.{read_in}
use Rattle.md_laws.proofs.Runs.ContentRuns.{without_content}
use Rattle.md_laws.proofs.Runs.LeftBehind.{kept_here, leads_to, reopens_here, same, same_here, small_here}
use Rattle.md_laws.proofs.Runs.Lists.{ListsAreIn, lists_when_opened}
use Rattle.md_laws.proofs.Runs.MirrorContents.{starts_small}
use Rattle.md_laws.proofs.Runs.MirrorLives.{as_left, left}
use Rattle.md_laws.proofs.Runs.MirrorRuns.{starts}
use Rattle.md_laws.proofs.Runs.Offsets.{SuresIn, sures_when_opened}
use Rattle.md_laws.proofs.Runs.Recovering.{IsResumedAt, resumed_at_stop, resumed_first, resumed_next, resumed_rests, resumed_then}
use Rattle.md_laws.proofs.Runs.Rests.{history_rests}

record IsSureAt (g : Geometry) (opened : Super) (t : Moment) (a : Content) : Type 0 where
  resumed : IsResumedAt g opened t a
  sure : IsSure g t.spoiled a (world_of t.mirror t.requests)

-- ---- what a crash left, and the opening of it
lists_still : (g : Geometry) (w next : World) (keeps : KeepsMemory w next) (k : ℕ) (d e : Stored) → crashes.IsHalfOpened g d e → ListsSaid g w k d → ListsSaid g next k e
lists_still g w next keeps k d e half lists own is s low below off =
    keeps.bad k s ∙ lists own (sym half.super ∙ is) s low below (sym (ap (λ (f : ℕ → _). f s) half.listed) ∙ off)

module _ (g : Geometry) (small : IsWithinLimits g) where
  sure_rests : (opened : Super) (t last : Moment) (a : Content) → HasRested t last → IsSureAt g opened t a → IsSureAt g opened last a
  sure_rests opened t last a r is = record {
    resumed = resumed_rests g small opened t last a r is.resumed;
    sure = subst (λ h. IsSure g h.spoiled a h.now) (sym (history_rests t last r)) is.sure;
  }

  sure_then : (opened : Super) (t : Moment) (a : Content) → IsSureAt g opened t a → (e : Event) (m : MirrorView) (requests : ℕ → Option Request) → RestsThenDoes t.mirror t.requests e m requests
      → (b : Content) → Becomes (geometry_of t.mirror.array) e (world_of t.mirror t.requests) a b → JoinsBehind (geometry_of t.mirror.array) e (world_of t.mirror t.requests) a
      → IsSureAt g opened (then_as t e m requests) b
  sure_then opened t a is e m requests does b becomes joins =
      let w = world_of t.mirror t.requests in
      let x = is.resumed in
      record {
        resumed = resumed_then g small opened t a x e m requests does b becomes joins;
        sure = sure_event g small.wide t.spoiled a w is.sure x.held.held.kept.tracked x.held.held.holds.at_rest x.recovering x.held.held.kept.recorded.some_in b e (world_of m requests)
            (leads_to g small opened t a x.held e m requests does).1
            (subst (λ y. Becomes y e w a b) x.held.geometry becomes)
            (subst (λ y. JoinsBehind y e w a) x.held.geometry joins);
      }

  sure_along : (opened : Super) (es : List Event) (t : Moment) (a : Content) (last : Moment) (b : Content) (r : MirrorRunWith t a es last b) → MirrorRunJoins t a es last b r
      → IsSureAt g opened t a → IsSureAt g opened last b
  sure_along opened [] t a last b r told is = subst (IsSureAt g opened last) (sym r.1) (sure_rests opened t last a r.0 is)
  sure_along opened (e ∷ es) t a last b r told is =
      sure_along opened es (then_as t e r.0 r.1) r.2 last b r.5 told.1 (sure_then opened t a is e r.0 r.1 r.3 r.2 r.4 told.0)

  module _ (opened : MirrorView) (same_opened : geometry_of opened.array ≡ g) (t : Moment) (a : Content) (is : IsSureAt g (super_of opened.array.shared) t a)
      (next : MirrorView) (again : IsReopened opened t next) where
    abbrev was : Super
    was = super_of opened.array.shared

    abbrev first : Super
    first = super_of next.array.shared

    abbrev w : World
    w = world_of next none_in_flight

    abbrev here : Geometry
    here = geometry_of t.mirror.array

    abbrev s : IsSorted t again.devices.left
    s = left t is.resumed.held.sound next again.before again.devices again.opens

    sure_at_stop : IsSureResumed here was (history_of s.moment) a
    sure_at_stop = record {
      resumed = resumed_at_stop g small opened same_opened t a is.resumed next again;
      sure = subst (λ y. IsSure y s.moment.spoiled a (history_of s.moment).now) (sym is.resumed.held.geometry) (sure_along was s.events t a s.moment a (s.still a) (s.joins a) is).sure;
    }

    same_next : geometry_of next.array ≡ here
    same_next = same g small opened same_opened t a is.resumed.held next again ∙ sym is.resumed.held.geometry

    module _ (b : Content) (told : MirrorOpensSure opened t next again b) where
      opens_sure : OpensSure here was (history_of s.moment) first w (reopens_here g small opened same_opened t a is.resumed.held next again) b
      opens_sure j on = elim (told j on) [
        | inl x ↦
            let r = reopens_here g small opened same_opened t a is.resumed.held next again in
            let there = as_left t is.resumed.held.sound next opened (same_here g small opened same_opened t a is.resumed.held next again) (small_here g small opened same_opened t a is.resumed.held next again)
            (kept_here g small opened same_opened t a is.resumed.held next again) again j x.0 x.1 in
            inl (subst (λ i. (r.made_of i ≡ r.left i) × ListsSaid here (history_of s.moment).now i (r.left i)) (sym there.0) (
              there.1,
              lists_still here (world_of t.mirror t.requests) (history_of s.moment).now s.memory x.0 (read_in t.mirror.array again.devices.left x.0) (r.left x.0) there.2 x.2,
            ))
        | inr held ↦ inr (λ x low. held x (subst (λ (y : Geometry). x < y.size) (sym same_next) low))
      ]

      sure_next : BecomesAtOpening (geometry_of next.array) w a b → IsSure g (λ _. false) b w
      sure_next becomes = subst (λ y. IsSure y (λ _. false) b w) is.resumed.held.geometry
          (sure_reopened here (small_here g small opened same_opened t a is.resumed.held next again) was (history_of s.moment) a sure_at_stop first w
          (reopens_here g small opened same_opened t a is.resumed.held next again) b (subst (λ y. BecomesAtOpening y w a b) same_next becomes) opens_sure)

  -- ---- lives
  sure_life : (m : MirrorView) (a : Content) (es : List Event) (rest : List (List Event)) (final : MirrorView) (last : Moment) (b : Content) (life : MirrorLifeWith m a es rest final last b)
      → MirrorLifeJoins m a es rest final last b life → MirrorLifeOpensSure m a es rest final last b life → geometry_of m.array ≡ g
      → ListsAreIn (λ _. false) (world_of m none_in_flight) → SuresIn (world_of m none_in_flight) → IsSureAt g (super_of m.array.shared) (opened_as m) a
      → IsSureAt g (super_of final.array.shared) last b
  sure_life m a es [] final last b life told opens chunks lists sures is =
      subst (λ (x : MirrorView). IsSureAt g (super_of x.array.shared) last b) (sym life.0) (sure_along (super_of m.array.shared) es (opened_as m) a last b life.1 told is)
  sure_life m a es (more ∷ rest) final last b life told opens chunks lists sures is =
      let next = life.1 in
      let again = life.5 in
      let mid = sure_along (super_of m.array.shared) es (opened_as m) a life.0 life.2 life.4 told.0 is in
      sure_life next life.3 more rest final last b life.7 told.2 opens.1 (same g small m chunks life.0 life.2 mid.resumed.held next again)
      (lists_when_opened again.before next again.devices.honest again.opens) (sures_when_opened again.before next again.devices.honest again.opens)
      (record {
        resumed = resumed_next g small m chunks life.0 life.2 mid.resumed next again es (without_content es (opened_as m) a life.0 life.2 life.4) lists sures life.3 told.1 life.6;
        sure = sure_next m chunks life.0 life.2 mid next again life.3 opens.0 life.6;
      })

pub mirror_keeps_sure : MirrorKeepsSure
mirror_keeps_sure before m a start holds recovering sure es rest final last b life told opens =
    let g = geometry_of m.array in
    let x = sure_life g (starts_small before m start) m a es rest final last b life told opens refl (lists_when_opened before m start.honest start.opened) (sures_when_opened before m start.honest start.opened)
    (record {
      resumed = resumed_first before m a start holds recovering;
      sure = sure_opened g (super_of m.array.shared) (world_of m none_in_flight) (starts before m start).opening a sure;
    }) in
    (x.sure.holds, λ k own on off e. (x.sure.known k on).stored own off e)
