use Rattle.std.proofs.Common.{◌≡◌}
use Rattle.std.specs.Prelude.{map}
use Rattle.std.specs.List.{range_with_len}
use Rattle.md_create.specs.Values.{role_for}
use Rattle.md_create.proofs.new_members.roles_for.Given as goal

abbrev pub invariant-loop-role : goal.invariant-loop-role
invariant-loop-role l = l.roles.items ≡ map (role_for l.sizes) (range_with_len 0 l.role)
