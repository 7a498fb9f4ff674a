use Rattle.std.proofs.Common.{arith, ◌∙◌, ap, sym, length}
use Rattle.std.proofs.lemmas.List.FromFn.{map-range_with_len_more, length-map-range_with_len}
use Rattle.md_kept_members.specs.Membership.Joining.{role_after}
use Rattle.md_kept_members.proofs.membership.joining.roles_with.Goals as goal

pub loop-d-preserved : goal.loop-d-preserved
loop-d-preserved c =
    rw (c.in_ok-push.ensures.items, c.loop-d.invariant, c.role_after.ensures)
    (sym (map-range_with_len_more (role_after c.args.shared.now c.args.members.now c.args.number c.args.role) 0 c.loop-d.d c.loop-d.d (omega arith)))

pub from_vec-requires : goal.from_vec-requires
from_vec-requires c =
    let long = ap length c.loop-d.invariant ∙ length-map-range_with_len (role_after c.args.shared.now c.args.members.now c.args.number c.args.role) 0 c.loop-d.d in
    omega arith
