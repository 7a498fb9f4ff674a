use Rattle.md_write.specs.Progress.{WritesBelow}
use Rattle.md_write.proofs.data.write_to_members.Given as goal

abbrev pub invariant-loop-k : goal.invariant-loop-k
invariant-loop-k g l = WritesBelow l.k l.fn.pending l.pending l.fn.mirror l.mirror
