use Rattle.md_cert.proofs.Order.{certified_yes}
use Rattle.md_cert.proofs.laws.certified_is_yes.Goals as goal

pub returns : goal.returns
returns c = certified_yes
