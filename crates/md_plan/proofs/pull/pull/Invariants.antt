use Rattle.std.proofs.Common.{ℕ, get_or}
use Rattle.md_plan.proofs.PathPulls.{IsPulling}
use Rattle.md_plan.specs.Search.{IsForest}
use Rattle.md_plan.proofs.pull.pull.Given as goal

abbrev pub invariant-loop-to : goal.invariant-loop-to
invariant-loop-to l = (sources : ℕ) × IsForest l.fn.loads l.reach l.bound sources l.order l.parent × IsPulling l.fn.cells.items l.fn.loads l.bound l.order l.parent sources l.cells.items l.loads l.to

abbrev pub decreases-loop-to : goal.decreases-loop-to
decreases-loop-to l = get_or l.order l.to 0
