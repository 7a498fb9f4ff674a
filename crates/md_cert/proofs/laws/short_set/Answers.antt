use Rattle.md_cert.proofs.Law.{short_needs_more}
use Rattle.md_cert.proofs.laws.short_set.Goals as goal

pub returns : goal.returns
returns c = short_needs_more
