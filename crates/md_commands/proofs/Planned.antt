-- What the command that plans answers: the plan, and then the output.
use Rattle.std.proofs.Common.{ℕ, List, Result, Ok, Err, refl, sym, subst}
use Rattle.md_streams.specs.declared.sink.Sink.{Ghosts}
use Rattle.md_cert.specs.declared.planned.Planned.{Planned}
use Rattle.md_state.specs.View.{ArrayView}
use Rattle.std.specs.Prelude.{MatchResult}
use Rattle.md_refusals.specs.declared.fault.CommandFault.{CommandFault}
use Rattle.md_refusals.specs.declared.fault.CommandFault.TheVariants.{OutputFault}
use Rattle.md_refusals.specs.Output.{FailsOutput}
use Rattle.md_streams.specs.Putting.{PutsOut}
use Rattle.md_commands.specs.Planning.{IsRebuildPlan, RefusesPlan, RefusesToPlan, ShowsPlan}

module _ {S : Type 0} (s : Ghosts S) (a : ArrayView) (k : ℕ) (before : S) where
  pub not_planned : (fault : CommandFault) → RefusesPlan a k fault → RefusesToPlan s a k before before fault
  not_planned OutputFault h = absurd h
  not_planned fault h = (h, refl)

  pub planned_or_not : (text_of : Planned → List ℕ) (after : S) (planned : Planned) → IsRebuildPlan a k planned → (result : Result (Unit {0}) CommandFault)
      → MatchResult result (λ _. PutsOut s before after (text_of planned)) (FailsOutput s after)
      → MatchResult result (λ _. ShowsPlan s a k before after text_of) (RefusesToPlan s a k before after)
  planned_or_not text_of after planned is (Ok x) shown = record { planned = planned; is = is; shown = shown }
  planned_or_not text_of after planned is (Err fault) fails = subst (λ (f : CommandFault). RefusesToPlan s a k before after f) (sym fails.is) ((planned, is), fails.failed)
