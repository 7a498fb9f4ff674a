use Rattle.md_kept_members.specs.Remembering.{IsLastClearedIn}
use Rattle.md_kept_members.proofs.cleared_at.last_cleared.Given as goal

abbrev pub invariant-loop-member : goal.invariant-loop-member
invariant-loop-member l = IsLastClearedIn l.members l.member-index l.last
