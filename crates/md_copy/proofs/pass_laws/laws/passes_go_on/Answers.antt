use Rattle.md_copy.proofs.PassLemmas.ArrayPasses.{passes_go_on}
use Rattle.md_copy.proofs.pass_laws.laws.passes_go_on.Goals as goal

pub returns : goal.returns
returns c = passes_go_on
