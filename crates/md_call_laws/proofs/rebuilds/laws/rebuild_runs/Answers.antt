use Rattle.md_call_laws.proofs.RebuildLemmas.RebuildRun.{rebuild_is_a_run, rebuild_runs_on}
use Rattle.md_call_laws.proofs.rebuilds.laws.rebuild_runs.Goals as goal

pub returns : goal.returns
returns c = record { enrolled = rebuild_is_a_run; records_stored = rebuild_runs_on }
