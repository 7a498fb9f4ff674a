use Rattle.std.proofs.Common.{◌∙◌, sym, arith}
use Rattle.md_read.proofs.InRoles.{in_role, none_in_role}
use Rattle.md_read.proofs.roles.member_in.Goals as goal

pub returns-then-is_in_sync_as : goal.returns-then-is_in_sync_as
returns-then-is_in_sync_as g c =
    let low = c.loop-k-test.true in
    let count = c.members-k-end.ensures in
    in_role c.args.mirror.now.array c.args.role c.loop-k.k c.state.result c.state.ensures (omega arith) (sym c.is_in_sync_as.ensures ∙ c.if-is_in_sync_as.true)

pub returns : goal.returns
returns g c =
    let past = c.loop-k-test.false in
    let count = c.members-k-end.ensures in
    none_in_role c.args.mirror.now.array c.args.role c.loop-k.k (omega arith) c.loop-k.invariant
