use Rattle.md_bitmap.proofs.ByteRuns.{AreSetBelow, of_others}
use Rattle.md_bitmap.proofs.runs.unite_below.Given as goal

abbrev pub invariant-loop-k : goal.invariant-loop-k
invariant-loop-k l = AreSetBelow (of_others l.others l.end) l.fn.bits l.k l.bits
