use Rattle.md_plan.specs.Slots.{HoldAsMuch}
use Rattle.md_plan.proofs.ring.close_rings.Given as goal

abbrev pub invariant-parts : goal.invariant-parts
invariant-parts l = record {
  same : HoldAsMuch l.fn.cells.items l.cells.items;
}
