use Rattle.std.proofs.Common.{◌≡◌}
use Rattle.md_kept_members.specs.Members.{made_due}
use Rattle.md_kept_members.proofs.Members.Mapping.{mapped_to}
use Rattle.md_kept_members.proofs.due.make_due.Given as goal

abbrev pub invariant-loop-member : goal.invariant-loop-member
invariant-loop-member l = l.members ≡ mapped_to made_due l.fn.members l.member-index
