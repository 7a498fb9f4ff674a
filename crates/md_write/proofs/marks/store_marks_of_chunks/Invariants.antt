use Rattle.md_state.specs.Steps.WriteMember.{HasMarksFrom}
use Rattle.md_metadata.specs.Storing.{StoresBelow}
use Rattle.md_write.specs.Progress.{IsMarkingOf}
use Rattle.md_write.proofs.marks.store_marks_of_chunks.Given as goal

abbrev pub invariant-loop-k : goal.invariant-loop-k
invariant-loop-k g l = StoresBelow (IsMarkingOf l.first l.end) l.k (HasMarksFrom l.first l.end) l.fn.mirror l.mirror
