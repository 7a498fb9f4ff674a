use Rattle.std.proofs.Common.{◌≡◌, ◌+◌, ◌*◌, ◌++◌, take}
use Rattle.std.specs.List.{flat_map}
use Rattle.byteorder.specs.Endian.{little_bytes}
use Rattle.md_super.proofs.groups.put_role_list.Given as goal

abbrev pub invariant-loop-role : goal.invariant-loop-role
invariant-loop-role l = record {
  at_is : l.at ≡ 256 + 2 * l.role-index;
  written : take l.at l.out ≡ take 256 l.initial.out ++ flat_map (little_bytes 2) (take l.role-index l.roles);
}
