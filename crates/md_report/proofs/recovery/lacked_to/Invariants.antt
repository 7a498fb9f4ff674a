use Rattle.std.proofs.Common.{◌≡◌, ◌≤◌}
use Rattle.md_kept_members.specs.View.{MemberView}
use Rattle.md_state.specs.Members.{IsMember}
use Rattle.md_report.specs.Recovery.{lacked_to}
use Rattle.md_report.proofs.recovery.lacked_to.Given as goal

abbrev pub invariant-loop-chunk : goal.invariant-loop-chunk
invariant-loop-chunk g l = record {
  count : (m : MemberView) → IsMember l.mirror.array l.k m → l.count ≡ lacked_to l.mirror.array m l.chunk;
  few : l.count ≤ l.chunk;
}
