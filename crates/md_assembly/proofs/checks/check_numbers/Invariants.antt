use Rattle.std.proofs.Common.{ℕ, ◌<◌}
use Rattle.md_assembly.specs.Faults.{RepeatsNumber}
use Rattle.md_assembly.proofs.checks.check_numbers.Given as goal

abbrev pub invariant-loop-j : goal.invariant-loop-j
invariant-loop-j l = (k : ℕ) → k < l.j → RepeatsNumber l.members k → ⊥
