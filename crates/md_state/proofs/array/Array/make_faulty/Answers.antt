use Rattle.std.proofs.Common.{◌∙◌}
use Rattle.md_state.proofs.Members.At.{read_member}
use Rattle.md_state.proofs.Changes.Raised.{faulted}
use Rattle.md_state.proofs.array.Array.make_faulty.Goals as goal

pub returns : goal.returns
returns c m at =
    let a = c.args.self.now in
    let x = c.index_mut-member.result.now in
    let is = c.member.view_is ∙ read_member a _ c.args.k m x c.self.view_is c.requires at c.index_mut-member.ensures.value in
    faulted a _ c.args.k m _ c.drop_role.new.shared c.self.view_is is c.drop_role.ensures
