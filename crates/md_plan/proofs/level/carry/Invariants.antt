use Rattle.std.proofs.Common.{◌≡◌, ◌<◌, length}
use Rattle.md_plan.specs.Classes.{IsLevelled}
use Rattle.md_plan.proofs.level.carry.Given as goal

abbrev pub invariant-steps : goal.invariant-steps
invariant-steps l = record {
  levelled : IsLevelled l.fn.cells.items l.cells.items;
  by_source : length l.by_source.items ≡ 32;
  loads : length l.loads ≡ 32;
  to : l.to < 32;
}
