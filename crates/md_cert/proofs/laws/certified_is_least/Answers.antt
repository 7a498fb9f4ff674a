use Rattle.md_cert.proofs.Law.{certified_least}
use Rattle.md_cert.proofs.laws.certified_is_least.Goals as goal

pub returns : goal.returns
returns c = certified_least
