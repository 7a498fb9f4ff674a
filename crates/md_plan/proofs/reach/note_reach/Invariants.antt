use Rattle.std.proofs.Common.{◌≡◌, ℕ, ◌<◌, get_or}
use Rattle.md_plan.proofs.ReachSteps.{ReachBelow}
use Rattle.md_plan.proofs.reach.note_reach.Given as goal

abbrev pub invariant-loop-word : goal.invariant-loop-word
invariant-loop-word l = (k : ℕ) → k < l.word-index → get_or l.reach k 0 ≡ 0

abbrev pub invariant-loop-cell : goal.invariant-loop-cell
invariant-loop-cell l = ReachBelow l.cells l.reach l.cell-index
