use Rattle.std.proofs.Common.{ap, sym}
use Rattle.md_kept_members.specs.View.{MemberView}
use Rattle.md_state.specs.Members.{IsMember}
use Rattle.md_state.proofs.Members.At.{member_read}
use Rattle.md_state.proofs.array.Array.regard_as_bad.Goals as goal

pub returns : goal.returns
returns c =
    let m = c.index-member.result.now in
    let at : IsMember c.args.self.now c.args.k m = member_read c.args.self.now _ c.args.k m c.self.view_is c.requires c.index-member.ensures in
    record { member = m; at = at; list = c.in_ok-list.list; list_is = c.in_ok-list.ensures m (ap (λ (x : MemberView). x.bad) (sym c.member.view_is)) (ap (λ (x : MemberView). x.superblock.data_offset) (sym c.member.view_is)); array = c.set_list.ensures m at }
