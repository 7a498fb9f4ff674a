-- Where each member in sync that does not list a sector holds something in it, each does after a resync.
use Rattle.std.proofs.Common.{◌≡◌, ◌∙◌, ℕ, false, List, [], ◌∷◌, None, sym, ap, subst}
use Rattle.md_model.specs.Content.{Content, IsGiven}
use Rattle.md_model.specs.Devices.{Stored}
use Rattle.md_model.specs.Events.{Event, Step}
use Rattle.md_model.specs.Resyncing.{copied_device}
use Rattle.md_model.specs.Sectors.{Geometry}
use Rattle.md_model.specs.Steps.{marked_device, recorded}
use Rattle.md_model.specs.Worlds.{IsInSync, World}
use Rattle.md_model.proofs.Puts.{put-at}
use Rattle.md_model.proofs.Steps.Tracked.{IsFewer}
use Rattle.md_model.proofs.Steps.TrackedSteps.{fewer_recorded}
use Rattle.md_state.specs.View.{MirrorView, geometry_of}
use Rattle.md_array.specs.InTurn.{AllOf}
use Rattle.md_array.specs.Worlds.{world_of}
use Rattle.md_array.proofs.General.Resting.{world_rests}
use Rattle.md_laws.specs.Runs.{MirrorRun, Moment, then_as}
use Rattle.md_laws.proofs.Runs.Moments.{IsSoundAt}
use Rattle.md_laws.proofs.Runs.ReadTurns.{reading_call_is_run}
use Rattle.md_laws.proofs.Runs.Rests.{rests_does}
use Rattle.md_metadata.specs.Storing.{IsNoFailure}
use Rattle.md_resync.specs.Resyncing.{IsOfResync, Resyncs}
use Rattle.md_resync.specs.Telling.{IsTelling}
use Rattle.md_resync.proofs.ToldRuns.{all_both, at_told, told_run, told_sound}
use Rattle.md_call_laws.proofs.CrashLemmas.Agreement.{no_records}

-- what a resync does that is done
abbrev pub IsGiving : Event → Type 0
IsGiving (Event.LowerOffset k s) = Unit {0}
IsGiving (Event.Record k) = Unit {0}
IsGiving (Event.StoreMarks k b) = Unit {0}
IsGiving (Event.Copy from k s) = Unit {0}
IsGiving Event.Resynced = Unit {0}
IsGiving (Event.ClearIdle c) = Unit {0}
IsGiving e = ⊥

pub telling_gives : (e : Event) → IsTelling e → IsNoFailure e → IsGiving e
telling_gives (Event.LowerOffset k s) of done = tt
telling_gives (Event.Record k) of done = tt
telling_gives (Event.StoreMarks k b) of done = tt
telling_gives (Event.WriteFails k part) of done = absurd done
telling_gives e of done = absurd of

pub resync_gives : (e : Event) → IsOfResync e → IsNoFailure e → IsGiving e
resync_gives (Event.StoreMarks k b) of done = tt
resync_gives (Event.Copy from k s) of done = tt
resync_gives Event.Resynced of done = tt
resync_gives (Event.ClearIdle c) of done = tt
resync_gives (Event.WriteFails k part) of done = absurd done
resync_gives e of done = absurd of

module _ (a : Content) (s : ℕ) where
  given_fewer : (w u : World) → IsFewer w u → IsGiven w a s → IsGiven u a s
  given_fewer w u f given k on clear = f.content k s on ∙ given k (f.in_sync k on) (f.listed k s on clear)

  -- what is said of a device, at one that stands in another's place
  abbrev IsGivenOn : Stored → Type 0
  IsGivenOn d = d.listed s ≡ false → d.content s ≡ a s

  pub given_step : (g : Geometry) (w : World) (e : Event) (u : World) → IsGiving e → Step g w e u → IsGiven w a s → IsGiven u a s
  given_step g w (Event.LowerOffset k at) u of step given = subst (λ (x : World). IsGiven x a s) (sym step.1.1) given
  given_step g w (Event.Record k) u of step given =
      subst (λ (x : World). IsGiven x a s) (sym step.1.3) (given_fewer w (recorded w k step.1.0) (fewer_recorded w k step.1.0 step.1.1) given)
  given_step g w (Event.StoreMarks k b) u of step given =
      subst (λ (x : World). IsGiven x a s) (sym step.1.1)
      (λ j on clear. put-at k (marked_device w k b) w.stored j IsGivenOn (λ here off. given k (subst (IsInSync w) here on) off) (λ apart off. given j on off) clear)
  given_step g w (Event.Copy from k at) u of step given =
      subst (λ (x : World). IsGiven x a s) (sym step.1.1)
      (λ j on clear. put-at k (copied_device w from k at) w.stored j IsGivenOn
      (λ here off. put-at at ((w.stored from).content at) (w.stored k).content s (λ (c : List ℕ). c ≡ a s)
      (λ same. ap (w.stored from).content (sym same) ∙ given from step.1.0.source (subst (λ (i : ℕ). (w.stored from).listed i ≡ false) (sym same) step.1.0.unlisted))
      (λ apart. given k (subst (IsInSync w) here on) off))
      (λ apart off. given j on off) clear)
  given_step g w Event.Resynced u of step given = subst (λ (x : World). IsGiven x a s) (sym step.1.1) given
  given_step g w (Event.ClearIdle c) u of step given = subst (λ (x : World). IsGiven x a s) (sym step.1.1) given
  given_step g w e u of step given = absurd of

  given_along : (es : List Event) → AllOf IsGiving es → (t u : Moment) → MirrorRun t es u → IsGiven (world_of t.mirror t.requests) a s → IsGiven (world_of u.mirror u.requests) a s
  given_along [] of t u r given = subst (λ (x : World). IsGiven x a s) (sym (world_rests t.mirror u.mirror r.rests t.requests)) given
  given_along (e ∷ es) of t u r given =
      given_along es of.1 (then_as t e r.0 r.1) u r.3
      (given_step (geometry_of t.mirror.array) (world_of t.mirror t.requests) e (world_of r.0 r.1) of.0 (rests_does t.mirror r.0 t.requests r.1 e r.2).step given)

  -- ---- a resync
  module _ (t : Moment) (at : IsSoundAt t) (new : MirrorView) (r : Resyncs t.mirror new) where
    abbrev there : Moment
    there = at_told t at r.told r.tells

    at_there : IsSoundAt (at_told t at r.told r.tells)
    at_there = told_sound t at r.told r.tells

    reaches : (last : Moment) × MirrorRun (at_told t at r.told r.tells) r.then.goes.events last × ((last.mirror ≡ new) × (last.requests ≡ t.requests))
    unfolding at_told
    reaches =
        reading_call_is_run r.then.goes.events None (at_told t at r.told r.tells) new t.requests (r.then.goes.leads None t.requests at_there.in_flight)
        (no_records r.then.goes.events r.then.goes.steps) at_there.honest

    pub given_resynced : IsGiven (world_of t.mirror t.requests) a s → IsGiven (world_of new t.requests) a s
    given_resynced given =
        let told = given_along r.tells.goes.events (all_both IsTelling IsNoFailure IsGiving telling_gives r.tells.goes.events r.tells.goes.steps r.tells.unfailing) t there
        (told_run t at r.told r.tells) given in
        let last = given_along r.then.goes.events (all_both IsOfResync IsNoFailure IsGiving resync_gives r.then.goes.events r.then.goes.steps r.then.unfailing) there reaches.0 reaches.1 told in
        subst (λ (v : MirrorView). IsGiven (world_of v t.requests) a s) reaches.2.0 last
