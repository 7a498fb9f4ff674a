use Rattle.std.proofs.Common.{◌≡◌}
use Rattle.md_kept_members.specs.Kept.{with_known_offset}
use Rattle.md_kept_members.proofs.Members.Mapping.{mapped_to}
use Rattle.md_kept_members.proofs.offsets.drop_old_offsets.Given as goal

abbrev pub invariant-loop-member : goal.invariant-loop-member
invariant-loop-member l = l.members ≡ mapped_to (with_known_offset l.fn.cleared) l.fn.members l.member-index
