use Rattle.std.proofs.Common.{ℕ, ◌<◌}
use Rattle.md_assembly.specs.Faults.{HasOtherGeometry}
use Rattle.md_assembly.specs.Listed.{PairAt}
use Rattle.md_assembly.proofs.checks.check_geometry.Given as goal

abbrev pub invariant-loop-i : goal.invariant-loop-i
invariant-loop-i l = (k : ℕ) → k < l.i → PairAt HasOtherGeometry l.members 0 k → ⊥
