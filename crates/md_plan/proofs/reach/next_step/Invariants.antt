use Rattle.std.proofs.Common.{◌≡◌, ℕ, ◌<◌, true, get_or}
use Rattle.md_cert.specs.Sources.{has}
use Rattle.md_plan.proofs.reach.next_step.Given as goal

abbrev pub invariant-loop-from : goal.invariant-loop-from
invariant-loop-from l = (s t : ℕ) → s < l.from → has l.seen s ≡ true → has (get_or l.reach s 0) t ≡ true → has l.seen t ≡ true

abbrev pub invariant-loop-to : goal.invariant-loop-to
invariant-loop-to l = (t : ℕ) → t < l.to → has (get_or l.reach l.from 0) t ≡ true → has l.seen t ≡ true
