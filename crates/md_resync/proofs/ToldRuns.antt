-- That recovering members are told of is a run of the mirror, and changes no data: what the members in sync hold they hold after it.
use Rattle.std.proofs.Common.{◌≡◌, List, [], ◌∷◌, None, refl, subst}
use Rattle.md_model.specs.Events.{Event}
use Rattle.md_state.specs.View.{MirrorView}
use Rattle.md_array.specs.InTurn.{AllOf}
use Rattle.md_laws.specs.ReadInTurn.{IsNoFailedRecord}
use Rattle.md_laws.specs.Runs.{MirrorRun, Moment}
use Rattle.md_laws.proofs.Runs.Moments.{IsSoundAt, run_keeps}
use Rattle.md_laws.proofs.Runs.ReadTurns.{reading_call_is_run, unread}
use Rattle.md_metadata.specs.Storing.{IsNoFailure}
use Rattle.md_resync.specs.Resyncing.{KeepsHeldContent}
use Rattle.md_resync.specs.Telling.{IsTelling, Tells}
use Rattle.md_resync.proofs.Agreeing.{LeavesContent, left_content}

pub telling_recorded : (e : Event) → IsTelling e → IsNoFailure e → IsNoFailedRecord e
telling_recorded (Event.LowerOffset k s) of done = tt
telling_recorded (Event.Record k) of done = tt
telling_recorded (Event.StoreMarks k b) of done = tt
telling_recorded (Event.WriteFails k part) of done = absurd done
telling_recorded e of done = absurd of

telling_leaves : (e : Event) → IsTelling e → IsNoFailure e → LeavesContent e
telling_leaves (Event.LowerOffset k s) of done = record { becomes = λ g w a. refl; whole = λ old new. tt }
telling_leaves (Event.Record k) of done = record { becomes = λ g w a. refl; whole = λ old new. tt }
telling_leaves (Event.StoreMarks k b) of done = record { becomes = λ g w a. refl; whole = λ old new. tt }
telling_leaves (Event.WriteFails k part) of done = absurd done
telling_leaves e of done = absurd of

-- of each of two kinds, and so of a third
pub all_both : (P Q R : Event → Type 0) → ((e : Event) → P e → Q e → R e) → (es : List Event) → AllOf P es → AllOf Q es → AllOf R es
all_both P Q R f [] p q = tt
all_both P Q R f (e ∷ es) p q = (f e p.0 q.0, all_both P Q R f es p.1 q.1)

module _ (old told : MirrorView) (t : Tells old told) where
  pub told_content : KeepsHeldContent old told
  told_content =
      left_content t.goes.events old told (all_both IsTelling IsNoFailure LeavesContent telling_leaves t.goes.events t.goes.steps t.unfailing)
      (λ previous requests in_flight. unread t.goes.events previous old requests (λ m r. (m ≡ told) × (r ≡ requests)) (t.goes.leads previous requests in_flight))

module _ (t : Moment) (at : IsSoundAt t) (told : MirrorView) (tells : Tells t.mirror told) where
  pub reaches_told : (last : Moment) × MirrorRun t tells.goes.events last × ((last.mirror ≡ told) × (last.requests ≡ t.requests))
  reaches_told =
      reading_call_is_run tells.goes.events None t told t.requests
      (unread tells.goes.events None t.mirror t.requests (λ m r. (m ≡ told) × (r ≡ t.requests)) (tells.goes.leads None t.requests at.in_flight))
      (all_both IsTelling IsNoFailure IsNoFailedRecord telling_recorded tells.goes.events tells.goes.steps tells.unfailing) at.honest

  unfoldable pub at_told : Moment
  at_told = record reaches_told.0 { mirror = told; requests = t.requests }

  pub told_run : MirrorRun t tells.goes.events at_told
  unfolding at_told
  told_run = subst (MirrorRun t tells.goes.events) (λ i. record reaches_told.0 { mirror = reaches_told.2.0 i; requests = reaches_told.2.1 i }) reaches_told.1

  pub told_sound : IsSoundAt at_told
  told_sound = run_keeps tells.goes.events t at_told told_run at
