-- A resync goes on with the life of a mirror, and the content stays where each member in sync gave it.
use Rattle.std.proofs.Common.{◌≡◌, ◌∙◌, ℕ, ◌<◌, Bool, true, false, List, [], ◌∷◌, ◌++◌, None, refl, sym, ap, subst, true≢false}
use Rattle.md_model.specs.Content.{Becomes, Content, IsGiven, TellsAtEnrolment}
use Rattle.md_model.specs.Devices.{Super}
use Rattle.md_model.specs.Events.{Event}
use Rattle.md_model.specs.Openings.{IsWithinLimits}
use Rattle.md_model.specs.Sectors.{Geometry}
use Rattle.md_model.specs.Worlds.{World}
use Rattle.md_model.proofs.Content.ContentAlong.{after_event}
use Rattle.md_state.specs.View.{MirrorView}
use Rattle.md_array.specs.InTurn.{AllOf}
use Rattle.md_array.specs.Worlds.{world_of}
use Rattle.md_array.proofs.StepLemmas.Turns.{all_on}
use Rattle.md_laws.specs.Runs.{MirrorRun, MirrorRunWith, Moment, history_of, then_as}
use Rattle.md_laws.proofs.Runs.LeftBehind.{held_then, leads_to}
use Rattle.md_laws.proofs.Runs.MirrorContents.{IsHeldAt}
use Rattle.md_laws.proofs.Runs.Moments.{IsSoundAt, run_then}
use Rattle.md_laws.proofs.Runs.ReadTurns.{reading_call_is_run}
use Rattle.md_metadata.specs.Storing.{IsNoFailure}
use Rattle.md_resync.specs.Resyncing.{IsOfResync, Resyncs}
use Rattle.md_resync.specs.Telling.{IsTelling}
use Rattle.md_resync.proofs.ToldRuns.{all_both, at_told, told_run, told_sound}
use Rattle.md_call_laws.proofs.CrashLemmas.Agreement.{no_records}
use Rattle.md_commands.specs.Resyncing.{ResyncsIfNeeded, needs_resync}
use Rattle.md_serve_commands.specs.WholeSessions.{ReadiesContent}
use Rattle.md_serve_commands.proofs.CallContents.{same_along}
use Rattle.md_serve_commands.proofs.GivenAfter.{IsGiving, given_step, resync_gives, telling_gives}

-- by a resync no member comes into sync
pub none_here : (e : Event) → IsGiving e → (g : Geometry) (w : World) (a : Content) → TellsAtEnrolment g e w a
none_here (Event.LowerOffset k s) of g w a = tt
none_here (Event.Record k) of g w a = tt
none_here (Event.StoreMarks k b) of g w a = tt
none_here (Event.Copy from k s) of g w a = tt
none_here Event.Resynced of g w a = tt
none_here (Event.ClearIdle c) of g w a = tt
none_here e of g w a = absurd of

-- ---- its events
module _ (t : Moment) (at : IsSoundAt t) (new : MirrorView) (r : Resyncs t.mirror new) where
  abbrev pub resync_events : List Event
  resync_events = r.tells.goes.events ++ r.then.goes.events

  pub resync_giving : AllOf IsGiving (r.tells.goes.events ++ r.then.goes.events)
  resync_giving =
      all_on IsGiving r.tells.goes.events r.then.goes.events
      (all_both IsTelling IsNoFailure IsGiving telling_gives r.tells.goes.events r.tells.goes.steps r.tells.unfailing)
      (all_both IsOfResync IsNoFailure IsGiving resync_gives r.then.goes.events r.then.goes.steps r.then.unfailing)

  abbrev there : Moment
  there = at_told t at r.told r.tells

  at_there : IsSoundAt (at_told t at r.told r.tells)
  at_there = told_sound t at r.told r.tells

  pub resync_reaches : (last : Moment) × MirrorRun (at_told t at r.told r.tells) r.then.goes.events last × ((last.mirror ≡ new) × (last.requests ≡ t.requests))
  unfolding at_told
  resync_reaches =
      reading_call_is_run r.then.goes.events None (at_told t at r.told r.tells) new t.requests (r.then.goes.leads None t.requests at_there.in_flight)
      (no_records r.then.goes.events r.then.goes.steps) at_there.honest

  pub resync_run : MirrorRun t (r.tells.goes.events ++ r.then.goes.events) (record resync_reaches.0 { mirror = new; requests = t.requests })
  resync_run =
      run_then r.tells.goes.events r.then.goes.events t there (record resync_reaches.0 { mirror = new; requests = t.requests })
      (told_run t at r.told r.tells)
      (subst (MirrorRun there r.then.goes.events) (λ i. record resync_reaches.0 { mirror = resync_reaches.2.0 i; requests = resync_reaches.2.1 i }) resync_reaches.1)

-- ---- the content along them
same_given : (e : Event) → IsGiving e → (g : Geometry) (w : World) (a b : Content) → Becomes g e w a b → (s : ℕ) → s < g.size → IsGiven w a s → b s ≡ a s
same_given (Event.LowerOffset k at) of g w a b becomes s low given = ap (λ (f : Content). f s) becomes
same_given (Event.Record k) of g w a b becomes s low given = ap (λ (f : Content). f s) becomes
same_given (Event.StoreMarks k at) of g w a b becomes s low given = ap (λ (f : Content). f s) becomes
same_given (Event.Copy from k at) of g w a b becomes s low given = ap (λ (f : Content). f s) becomes
same_given Event.Resynced of g w a b becomes s low given = becomes.kept s low given
same_given (Event.ClearIdle c) of g w a b becomes s low given = ap (λ (f : Content). f s) becomes
same_given e of g w a b becomes s low given = absurd of

module _ (g : Geometry) (small : IsWithinLimits g) (opened : Super) where
  record IsCarried (t : Moment) (a : Content) (es : List Event) (u : Moment) : Type 0 where
    content : Content
    run : MirrorRunWith t a es u content
    given : (s : ℕ) → s < g.size → IsGiven (world_of t.mirror t.requests) a s → content s ≡ a s

  carried : (es : List Event) → AllOf IsGiving es → (t u : Moment) (a : Content) → IsHeldAt g opened t a → MirrorRun t es u → IsCarried t a es u
  carried [] of t u a is r = record { content = a; run = (r, refl); given = λ s low given. refl }
  carried (e ∷ es) of t u a is r =
      let w : World = world_of t.mirror t.requests in
      let step = leads_to g small opened t a is e r.0 r.1 r.2 in
      let c = after_event g small opened (history_of t) e (world_of r.0 r.1) a is.held (none_here e of.0 g w a) step.1 in
      let rest = carried es of.1 (then_as t e r.0 r.1) u c.0 (held_then g small opened t a is e r.0 r.1 r.2 c.0 c.1) r.3 in
      record {
        content = rest.content;
        run = (r.0, r.1, c.0, r.2, subst (λ (x : Geometry). Becomes x e w a c.0) (sym is.geometry) c.1, rest.run);
        given = λ s low given.
            let same : c.0 s ≡ a s = same_given e of.0 g w a c.0 c.1 s low given in
            let then_given : IsGiven (world_of r.0 r.1) c.0 s = λ k on clear. given_step a s g w e (world_of r.0 r.1) of.0 step given k on clear ∙ sym same in
            rest.given s low then_given ∙ same;
      }

  -- ---- the array is made ready
  module _ (t : Moment) (a : Content) (is : IsHeldAt g opened t a) (ready : MirrorView) where
    resynced_there : Resyncs t.mirror ready → needs_resync t.mirror.array ≡ true → (b : Content) × ReadiesContent t a ready b
    resynced_there r needed =
        let u : Moment = record (resync_reaches t is.sound ready r).0 { mirror = ready; requests = t.requests } in
        let c = carried (r.tells.goes.events ++ r.then.goes.events) (resync_giving t is.sound ready r) t u a is (resync_run t is.sound ready r) in (
          c.content,
          record {
            events = r.tells.goes.events ++ r.then.goes.events;
            goes = record { past = (resync_reaches t is.sound ready r).0; run = c.run };
            given = λ s low given. c.given s (subst (λ (x : Geometry). s < x.size) is.geometry low) given;
            untouched = λ off. absurd (true≢false (sym needed ∙ off));
          },
        )

    untouched_there : ready ≡ t.mirror → (b : Content) × ReadiesContent t a ready b
    untouched_there same = (
      a,
      record { events = []; goes = same_along t ready a same; given = λ s low given. refl; untouched = λ off. (refl, refl) },
    )

    pub readied_there : ResyncsIfNeeded t.mirror ready → (b : Content) × ReadiesContent t a ready b
    readied_there h = by (needs_resync t.mirror.array) refl
      where
        by : (n : Bool) → needs_resync t.mirror.array ≡ n → (b : Content) × ReadiesContent t a ready b
        by true is_so = resynced_there (h.resynced is_so) is_so
        by false is_so = untouched_there (h.untouched is_so)
