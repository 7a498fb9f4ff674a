use Rattle.std.proofs.Common.{◌≡◌}
use Rattle.std.specs.Prelude.{map}
use Rattle.std.specs.List.{range_with_len}
use Rattle.md_kept_members.specs.Membership.Joining.{role_after}
use Rattle.md_kept_members.proofs.membership.joining.roles_with.Given as goal

abbrev pub invariant-loop-d : goal.invariant-loop-d
invariant-loop-d l = l.roles.items ≡ map (role_after l.shared l.members l.number l.role) (range_with_len 0 l.d)
