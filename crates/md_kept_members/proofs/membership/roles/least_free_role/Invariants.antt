use Rattle.std.proofs.Common.{◌≡◌, ◌<◌, ℕ, true}
use Rattle.md_kept_members.specs.Membership.Roles.{is_taken}
use Rattle.md_kept_members.proofs.membership.roles.least_free_role.Given as goal

abbrev pub invariant-loop-role : goal.invariant-loop-role
invariant-loop-role l = (r : ℕ) → r < l.role → is_taken l.members r ≡ true
