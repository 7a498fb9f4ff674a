use Rattle.std.proofs.Common.{below_more, arith}
use Rattle.md_assembly.specs.Faults.{IsDoubleRole}
use Rattle.md_assembly.proofs.Order.{roles_pass}
use Rattle.md_assembly.proofs.Places.{least_by}
use Rattle.md_assembly.proofs.Taken.{is_double, none_double, not_double}
use Rattle.md_assembly.proofs.roles.check_roles.Goals as goal

pub returns-then-count_of_role-gt1 : goal.returns-then-count_of_role-gt1
returns-then-count_of_role-gt1 c =
    let members = c.args.members.now in
    let f = c.requires.freshest in
    record {
      stands = least_by (IsDoubleRole members) c.loop-role.role (is_double members f.0 c.args.freshest.now c.loop-role.role c.count_of_role.result f.1 c.count_of_role.ensures c.if-count_of_role-gt1.true) c.loop-role.invariant;
      first = c.requires.before;
    }

pub loop-role-preserved : goal.loop-role-preserved
loop-role-preserved c =
    let f = c.requires.freshest in
    below_more _ _ c.loop-role.invariant (not_double c.args.members.now f.0 c.args.freshest.now c.loop-role.role c.count_of_role.result f.1 c.count_of_role.ensures c.if-count_of_role-gt1.false)

pub returns : goal.returns
returns c =
    let f = c.requires.freshest in
    roles_pass c.args.members.now c.requires.before (none_double c.args.members.now f.0 c.args.freshest.now f.1 (λ role below. c.loop-role.invariant role (omega arith)))
