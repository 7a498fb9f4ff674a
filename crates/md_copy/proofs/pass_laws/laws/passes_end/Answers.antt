use Rattle.md_copy.proofs.PassLemmas.ArrayPasses.{passes_end}
use Rattle.md_copy.proofs.pass_laws.laws.passes_end.Goals as goal

pub returns : goal.returns
returns c = λ passes a end chunks go. passes_end passes a end chunks go
