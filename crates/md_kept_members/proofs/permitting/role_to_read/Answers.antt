use Rattle.std.proofs.Common.{◌≡◌, ◌↔◌, true, subst}
use Rattle.std.specs.Int.{bit_at}
use Rattle.md_kept_members.specs.View.{MemberView}
use Rattle.md_assembly.specs.States.{is_in_sync_as}
use Rattle.md_kept_members.proofs.Members.Roles.{listed_role, unlisted_role}
use Rattle.md_kept_members.proofs.permitting.role_to_read.Goals as goal

pub returns-then-lists_any : goal.returns-then-lists_any
returns-then-lists_any c role small = listed_role c.args.chunks c.args.chunk role c.args.member.now c.lists_any.result c.lists_any.ensures c.if-lists_any.true

pub returns : goal.returns
returns c role small =
    let unlisted = c.if-lists_any.false in
    unlisted_role c.args.chunks c.args.chunk role c.args.member.now (bit_at c.role_in_sync.result role) (λ l. let listed = c.lists_any.ensures.1 l in absurd cc)
    (subst (λ (m : MemberView). (bit_at c.role_in_sync.result role ≡ 1) ↔ (is_in_sync_as role m.state ≡ true)) c.member.view_is (c.role_in_sync.ensures role small))
