use Rattle.std.proofs.Common.{◌≡◌, ◌<◌, length}
use Rattle.std.specs.List.{All}
use Rattle.mirror_tests.proofs.parts.plans.checked_plan.table_of.Given as goal

abbrev pub invariant-loop-mask : goal.invariant-loop-mask
invariant-loop-mask l = record {
  below : All (λ r. r.chunk < l.chunk) l.table;
  long : length l.table ≡ l.mask-index;
  number : l.chunk ≡ l.mask-index;
}
