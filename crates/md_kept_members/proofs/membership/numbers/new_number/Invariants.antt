use Rattle.std.proofs.Common.{ℕ, ◌<◌}
use Rattle.md_kept_members.specs.Membership.Numbers.{IsFree}
use Rattle.md_kept_members.proofs.membership.numbers.new_number.Given as goal

abbrev pub invariant-loop-number : goal.invariant-loop-number
invariant-loop-number l = (e : ℕ) → e < l.number → IsFree l.shared l.members e → ⊥
