use Rattle.md_metadata.proofs.Lowered.{LowersBelow}
use Rattle.md_metadata.proofs.offsets.lower_offsets.Given as goal

abbrev pub invariant-loop-k : goal.invariant-loop-k
invariant-loop-k g l = LowersBelow l.k l.sector l.fn.mirror l.mirror
