-- The end of the command that resynchronises an array.
use Rattle.std.proofs.Common.{sym, subst}
use Rattle.std.specs.Prelude.{MatchResult, Result, Ok, Err}
use Rattle.md_streams.specs.declared.sink.Sink.{Ghosts}
use Rattle.md_state.specs.View.{MirrorView}
use Rattle.md_report.specs.AsText.WholeArray.SummaryReport.{summary_text}
use Rattle.md_resync.specs.Resyncing.{Resyncs}
use Rattle.md_refusals.specs.declared.fault.CommandFault.{CommandFault}
use Rattle.md_refusals.specs.Output.{FailsOutput}
use Rattle.md_streams.specs.Putting.{PutsOut}
use Rattle.md_commands.specs.Resyncing.{RefusesToResync, ResyncsArray}
use Rattle.md_commands.specs.Stopping.{StopsAfter}

pub resynced_or_not : {S : Type 0} (s : Ghosts S) (old new : MirrorView) (before after : S) → StopsAfter (Resyncs old) new
    → (result : Result (Unit {0}) CommandFault) → MatchResult result (λ _. PutsOut s before after (summary_text new.array)) (FailsOutput s after)
    → MatchResult result (λ _. ResyncsArray s old new before after) (RefusesToResync s old new before after)
resynced_or_not s old new before after stops (Ok x) shown = record { stops = stops; shown = shown }
resynced_or_not s old new before after stops (Err fault) fails =
    subst (λ (f : CommandFault). RefusesToResync s old new before after f) (sym fails.is) (stops, fails.failed)
