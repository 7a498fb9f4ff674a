use Rattle.std.proofs.Common.{subst}
use Rattle.md_kept_members.specs.Enrolling.{IsListAfter}
use Rattle.md_kept_members.specs.View.{MemberView}
use Rattle.md_kept_members.proofs.ChunksListed.{is_list_after}
use Rattle.md_kept_members.proofs.bad_lists.list_after.Goals as goal

pub returns : goal.returns
returns c =
    let copied = c.args.copied.now in
    let orphans = c.args.orphans.now in
    subst (λ (m : MemberView). IsListAfter c.args.chunks m copied orphans c.add_chunks.new.list) c.member.view_is
    (is_list_after c.args.chunks _ copied orphans c.in_ok-list.list c.remove_chunks.new.list c.add_chunks.new.list c.in_ok-list.ensures.same c.in_ok-remove_chunks.ensures c.in_ok-add_chunks.ensures)
