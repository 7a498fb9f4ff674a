use Rattle.std.proofs.Common.{arith, ◌∙◌, ap, sym, length}
use Rattle.std.proofs.lemmas.List.FromFn.{map-range_with_len_more, length-map-range_with_len}
use Rattle.md_create.specs.Values.{role_for}
use Rattle.md_create.proofs.new_members.roles_for.Goals as goal

pub loop-role-preserved : goal.loop-role-preserved
loop-role-preserved c =
    rw (c.in_ok-push.ensures.items, c.loop-role.invariant, c.role_for.ensures) (sym (map-range_with_len_more (role_for c.args.sizes.now) 0 c.loop-role.role c.loop-role.role (omega arith)))

pub from_vec-requires : goal.from_vec-requires
from_vec-requires c =
    let long = ap length c.loop-role.invariant ∙ length-map-range_with_len (role_for c.args.sizes.now) 0 c.loop-role.role in
    omega arith
