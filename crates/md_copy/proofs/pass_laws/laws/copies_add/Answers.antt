use Rattle.md_copy.proofs.PassLemmas.ArrayPasses.{copies_add}
use Rattle.md_copy.proofs.pass_laws.laws.copies_add.Goals as goal

pub returns : goal.returns
returns c = copies_add
