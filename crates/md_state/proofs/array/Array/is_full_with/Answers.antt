use Rattle.std.proofs.Common.{◌∙◌, not, ap}
use Rattle.md_state.proofs.Members.Filled.{full_with}
use Rattle.md_state.proofs.array.Array.is_full_with.Goals as goal

pub returns : goal.returns
returns c k m n at out state = ap not c.lacks_beside.ensures ∙ full_with c.args.self.now k m n c.args.role at out state
