use Rattle.md_metadata.proofs.ClearedMarks.{ClearsTo}
use Rattle.md_metadata.proofs.idle_marks.clear_marks.Given as goal

abbrev pub invariant-loop-chunk : goal.invariant-loop-chunk
invariant-loop-chunk g l = ClearsTo l.chunk l.fn.mirror l.mirror
