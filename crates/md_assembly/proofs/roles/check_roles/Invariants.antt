use Rattle.std.proofs.Common.{ℕ, ◌<◌}
use Rattle.md_assembly.specs.Faults.{IsDoubleRole}
use Rattle.md_assembly.proofs.roles.check_roles.Given as goal

abbrev pub invariant-loop-role : goal.invariant-loop-role
invariant-loop-role l = (k : ℕ) → k < l.role → IsDoubleRole l.members k → ⊥
