use Rattle.std.proofs.Common.{◌≡◌}
use Rattle.md_kept_members.specs.TakingBack.{lowered_member}
use Rattle.md_kept_members.proofs.Members.Mapping.{mapped_to}
use Rattle.md_kept_members.proofs.offsets.lower_offsets.Given as goal

abbrev pub invariant-loop-member : goal.invariant-loop-member
invariant-loop-member l = l.members ≡ mapped_to (lowered_member l.fn.sector) l.fn.members l.member-index
