use Rattle.md_copy.proofs.Done.RebuiltByCall.{has_rebuilt}
use Rattle.md_copy.proofs.laws.rebuilt_by_call.Goals as goal

pub returns : goal.returns
returns c = has_rebuilt
