use Rattle.md_metadata.proofs.ClearedMarks.{to_more}
use Rattle.md_metadata.proofs.idle_marks.clear_marks.Goals as goal

pub loop-chunk-preserved : goal.loop-chunk-preserved
loop-chunk-preserved g c = to_more c.loop-chunk.chunk c.args.mirror.now c.loop-chunk.mirror c.clear_mark.new.mirror c.loop-chunk.invariant c.clear_mark.ensures
