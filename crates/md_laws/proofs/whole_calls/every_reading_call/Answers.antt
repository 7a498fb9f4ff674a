use Rattle.md_laws.proofs.Runs.ReadTurns.{reading_call_is_run}
use Rattle.md_laws.proofs.whole_calls.every_reading_call.Goals as goal

pub returns : goal.returns
returns c = reading_call_is_run
