use Rattle.std.proofs.Common.{◌≡◌, ◌≤◌}
use Rattle.md_badblocks.specs.Runs.{IsBad}
use Rattle.md_check.proofs.work.clear_run.Given as goal

abbrev pub decreases-loop-run : goal.decreases-loop-run
decreases-loop-run l = l.run

abbrev pub invariant-loop-run : goal.invariant-loop-run
invariant-loop-run l = record {
  few : l.run ≤ l.most;
  none : l.run ≡ 0 → IsBad l.listed l.sector;
}
