use Rattle.std.proofs.Common.{ℕ, ◌<◌}
use Rattle.md_assembly.specs.Faults.{LacksBitmap}
use Rattle.md_assembly.specs.Listed.{MemberAt}
use Rattle.md_assembly.proofs.checks.check_bitmaps.Given as goal

abbrev pub invariant-loop-i : goal.invariant-loop-i
invariant-loop-i l = (k : ℕ) → k < l.i → MemberAt LacksBitmap l.members k → ⊥
