use Rattle.md_kept_members.proofs.MembershipLemmas.AbsentRoles.{AreSettledTo}
use Rattle.md_kept_members.proofs.membership.numbers.drop_absent_roles.Given as goal

abbrev pub invariant-loop-number : goal.invariant-loop-number
invariant-loop-number l = AreSettledTo l.fn.shared l.members l.number l.shared
