use Rattle.md_call_laws.proofs.RebuildLemmas.SalvageRun.{crashes_storing_salvaged, salvage_is_a_run, salvage_runs_on}
use Rattle.md_call_laws.proofs.rebuilds.laws.salvage_runs.Goals as goal

pub returns : goal.returns
returns c = record { enrolled = salvage_is_a_run; records_stored = salvage_runs_on; storing_records = crashes_storing_salvaged }
