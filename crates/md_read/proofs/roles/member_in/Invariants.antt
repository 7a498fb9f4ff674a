use Rattle.md_read.proofs.InRoles.{NoneInRoleBelow}
use Rattle.md_read.proofs.roles.member_in.Given as goal

abbrev pub invariant-loop-k : goal.invariant-loop-k
invariant-loop-k g l = NoneInRoleBelow l.mirror.array l.role l.k
