use Rattle.md_nbd.proofs.AskedNames.{found}
use Rattle.md_nbd.proofs.laws.asked_names.Goals as goal

pub returns-clause-found : goal.returns-clause-found
returns-clause-found c = found
