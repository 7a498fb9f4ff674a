use Rattle.std.proofs.Common.{ℕ, ◌<◌}
use Rattle.md_kept_members.specs.View.{MemberView}
use Rattle.md_state.specs.Members.{IsMember}
use Rattle.md_resync.specs.Telling.{IsRecoveringRecorded}
use Rattle.md_resync.proofs.told_first.is_recovering_due.Given as goal

abbrev pub invariant-loop-k : goal.invariant-loop-k
invariant-loop-k g l = (j : ℕ) (m : MemberView) → j < l.k → IsMember l.mirror.array j m → IsRecoveringRecorded m
