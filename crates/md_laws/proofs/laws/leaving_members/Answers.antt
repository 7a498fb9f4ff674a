use Rattle.md_laws.proofs.Runs.Joined.{failed_joins, log_joins, missing_joins}
use Rattle.md_laws.proofs.Runs.LeftBehind.{left_behind, log_left_behind, missing_behind}
use Rattle.md_laws.proofs.laws.leaving_members.Goals as goal

pub returns : goal.returns
returns c = record { behind = left_behind; log = log_left_behind; missing = missing_behind; failed_joins = failed_joins; log_joins = log_joins; missing_joins = missing_joins }
