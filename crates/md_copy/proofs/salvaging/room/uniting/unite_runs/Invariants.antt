use Rattle.std.proofs.Common.{drop}
use Rattle.md_copy.proofs.SalvageLemmas.RunsUnited.{IsUnitedTo}
use Rattle.md_copy.proofs.salvaging.room.uniting.unite_runs.Given as goal

abbrev pub invariant-loop-run : goal.invariant-loop-run
invariant-loop-run l = IsUnitedTo l.gap l.to l.first l.entry l.end l.run-items l.others (drop l.run-index l.run-items) l.all
