use Rattle.md_resync.specs.Sources.{BestBelow}
use Rattle.md_resync.proofs.source.source_of.Given as goal

-- the lowest role of the members so far
abbrev pub invariant-loop-k : goal.invariant-loop-k
invariant-loop-k g l = record { best : BestBelow l.k l.sector l.mirror.array l.best }
