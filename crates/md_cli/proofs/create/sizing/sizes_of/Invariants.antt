use Rattle.std.proofs.Common.{◌≡◌, ◌≤◌, map}
use Rattle.arrayvec.specs.ArrayVec.{array_vec_len}
use Rattle.md_state.specs.View.{disk_of}
use Rattle.md_cli.proofs.Sizes.{IsSizedTo}
use Rattle.md_cli.proofs.create.sizing.sizes_of.Given as goal

abbrev pub invariant-loop-place : goal.invariant-loop-place
invariant-loop-place g l =
    IsSizedTo l.names (map (disk_of g.D.Device) l.devices) l.sizes.items l.place l.next × (l.next ≤ l.place) × (array_vec_len l.sizes ≡ l.place)
