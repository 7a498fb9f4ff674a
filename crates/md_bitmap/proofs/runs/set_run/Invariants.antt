use Rattle.md_bitmap.proofs.ByteRuns.{AreSetBelow, in_run}
use Rattle.md_bitmap.proofs.runs.set_run.Given as goal

abbrev pub invariant-loop-k : goal.invariant-loop-k
invariant-loop-k l = AreSetBelow (in_run l.from l.end) l.fn.bits l.k l.bits
