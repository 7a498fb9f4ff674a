use Rattle.std.proofs.Common.{◌≡◌, length}
use Rattle.md_plan.specs.Classes.{IsLevelled}
use Rattle.md_plan.proofs.level.level.Given as goal

abbrev pub invariant-paths : goal.invariant-paths
invariant-paths l = record {
  levelled : IsLevelled l.fn.cells.items l.cells.items;
  by_source : length l.by_source.items ≡ 32;
}
