use Rattle.md_copy.proofs.PassLemmas.Listing.{lists_add}
use Rattle.md_copy.proofs.pass_laws.laws.lists_add.Goals as goal

pub returns : goal.returns
returns c = lists_add
