use Rattle.md_metadata.specs.Storing.{HasAllMarks, IsMarking, StoresBelow}
use Rattle.md_metadata.proofs.all_marks.store_all_marks.Given as goal

abbrev pub invariant-loop-k : goal.invariant-loop-k
invariant-loop-k g l = StoresBelow IsMarking l.k (HasAllMarks l.fn.mirror.array.marks) l.fn.mirror l.mirror
