use Rattle.md_plan.specs.Slots.{HoldAsMuch}
use Rattle.md_plan.proofs.ring.find_fewest.Given as goal

abbrev pub invariant-ring : goal.invariant-ring
invariant-ring l = record {
  same : HoldAsMuch l.fn.cells.items l.cells.items;
}
