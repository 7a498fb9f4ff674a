use Rattle.md_copy.proofs.Done.RebuiltByCall.{rebuilt_member}
use Rattle.md_copy.proofs.laws.rebuilt_member.Goals as goal

pub returns : goal.returns
returns c = rebuilt_member
