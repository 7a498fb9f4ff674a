use Rattle.std.proofs.Common.{◌≤◌, length}
use Rattle.md_plan.specs.Classes.{IsLevelled}
use Rattle.md_plan.proofs.direct.move_directly.Given as goal

abbrev pub invariant-cells : goal.invariant-cells
invariant-cells l = record {
  levelled : IsLevelled l.fn.cells.items l.cells.items;
  long : length l.fn.cells.items ≤ length l.cells.items;
}
