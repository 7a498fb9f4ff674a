use Rattle.md_check.proofs.RunByRun.{IsSplit}
use Rattle.md_check.proofs.listed.listed_from.Given as goal

abbrev pub invariant-loop-run : goal.invariant-loop-run
invariant-loop-run l = IsSplit l.bad l.offset l.listed l.run-index
