use Rattle.md_laws.proofs.Runs.Unlogged.{stays_unlogged}
use Rattle.md_laws.proofs.laws.run_without_logs.Goals as goal

pub returns : goal.returns
returns c = record { stays = stays_unlogged }
