use Rattle.md_laws.proofs.Runs.Returned.{starts_again}
use Rattle.md_laws.proofs.laws.returning_devices.Goals as goal

pub returns : goal.returns
returns c = record { starts = starts_again }
