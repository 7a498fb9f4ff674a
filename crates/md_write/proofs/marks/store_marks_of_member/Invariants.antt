use Rattle.md_write.proofs.StoredMarks.{StoresUpTo}
use Rattle.md_write.proofs.marks.store_marks_of_member.Given as goal

abbrev pub invariant-loop-block : goal.invariant-loop-block
invariant-loop-block g l = StoresUpTo l.k l.first l.end l.block l.fn.mirror l.mirror
