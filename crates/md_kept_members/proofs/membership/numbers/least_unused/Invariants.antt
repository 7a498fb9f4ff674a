use Rattle.std.proofs.Common.{◌≡◌, ℕ, ◌<◌, true}
use Rattle.md_kept_members.specs.Membership.Numbers.{has_number}
use Rattle.md_kept_members.proofs.membership.numbers.least_unused.Given as goal

abbrev pub invariant-loop-number : goal.invariant-loop-number
invariant-loop-number l = (e : ℕ) → e < l.number → has_number l.members e ≡ true
