use Rattle.md_laws.proofs.Runs.CallRuns.{call_is_run, run_on}
use Rattle.md_laws.proofs.whole_calls.every_call.Goals as goal

pub returns : goal.returns
returns c = record { run = call_is_run; goes_on = run_on }
