use Rattle.std.proofs.Common.{◌<◌}
use Rattle.md_plan.proofs.level.excess_at_root.Given as goal

abbrev pub invariant-steps : goal.invariant-steps
invariant-steps l = l.root < 32
