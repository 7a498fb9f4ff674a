use Rattle.md_copy.proofs.Passing.PassesKeep as keeping
use Rattle.md_copy.proofs.laws.stretches_made_as_one.Goals as goal

pub returns : goal.returns
returns c = keeping.stretches_made_as_one
