use Rattle.std.proofs.Common.{◌≡◌, ◌≤◌}
use Rattle.md_report.specs.Recovery.{marked_to}
use Rattle.md_report.proofs.recovery.marked_to.Given as goal

abbrev pub invariant-loop-chunk : goal.invariant-loop-chunk
invariant-loop-chunk g l = record {
  count : l.count ≡ marked_to l.mirror.array l.sector l.chunk;
  few : l.count ≤ l.chunk;
}
