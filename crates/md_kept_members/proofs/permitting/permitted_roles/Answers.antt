use Rattle.std.proofs.Common.{true, false, arith}
use Rattle.md_kept_members.specs.Permitting.{IsServedAs}
use Rattle.md_kept_members.proofs.Members.Roles.{first_bits, second_bits}
use Rattle.md_kept_members.proofs.permitting.permitted_roles.Goals as goal

pub returns-then-roles-ne0 : goal.returns-then-roles-ne0
returns-then-roles-ne0 c =
    first_bits (IsServedAs c.args.members.now c.args.chunks c.args.chunk false) (IsServedAs c.args.members.now c.args.chunks c.args.chunk true) c.served_roles-roles.result (omega arith)
    (λ none. let some = c.if-roles-ne0.true in absurd (omega arith)) c.served_roles-roles.ensures

pub returns : goal.returns
returns c =
    second_bits (IsServedAs c.args.members.now c.args.chunks c.args.chunk false) (IsServedAs c.args.members.now c.args.chunks c.args.chunk true) c.served_roles-roles.result c.served_roles.result
    (let none = c.if-roles-ne0.false in omega arith) c.served_roles-roles.ensures c.served_roles.ensures
