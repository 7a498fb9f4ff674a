use Rattle.md_notices.specs.Unnamed.{NoneUnnamed}
use Rattle.md_notices.proofs.unnamed.unnamed_in.Given as goal

abbrev pub invariant-loop-number : goal.invariant-loop-number
invariant-loop-number g l = record { none : NoneUnnamed l.mirror.array l.joining l.role l.number }
