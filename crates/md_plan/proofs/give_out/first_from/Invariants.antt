use Rattle.std.proofs.Common.{◌-◌, length}
use Rattle.std.specs.List.{AllWithin}
use Rattle.md_plan.specs.Slots.{HasChunksOf}
use Rattle.md_plan.proofs.give_out.first_from.Given as goal

abbrev pub invariant-loop-at : goal.invariant-loop-at
invariant-loop-at l = AllWithin (λ c. HasChunksOf l.mask c → ⊥) l.cells l.fn.from l.at

abbrev pub decreases-loop-at : goal.decreases-loop-at
decreases-loop-at l = length l.cells - l.at
