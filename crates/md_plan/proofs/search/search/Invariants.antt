use Rattle.std.proofs.Common.{◌≡◌, ℕ, ◌<◌, get_or}
use Rattle.md_plan.proofs.ReachSteps.{IsSearched, unseen}
use Rattle.md_plan.proofs.search.search.Given as goal

abbrev pub invariant-loop-word : goal.invariant-loop-word
invariant-loop-word l = (k : ℕ) → k < l.word-index → get_or l.order k 0 ≡ 0

abbrev pub invariant-loop-from : goal.invariant-loop-from
invariant-loop-from l = IsSearched l.loads l.reach l.bound l.seen l.order l.parent l.steps

abbrev pub decreases-loop-from : goal.decreases-loop-from
decreases-loop-from l = unseen l.seen
