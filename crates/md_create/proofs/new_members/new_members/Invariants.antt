use Rattle.md_create.proofs.Devices.{AreMembersBelow}
use Rattle.md_create.proofs.new_members.new_members.Given as goal

abbrev pub invariant-loop-role : goal.invariant-loop-role
invariant-loop-role l = AreMembersBelow l.params l.sizes l.size l.role l.members.items
