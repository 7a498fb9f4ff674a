use Rattle.std.proofs.Common.{◌≡◌, map}
use Rattle.md_state.specs.View.{disk_of}
use Rattle.md_read_commands.specs.Fronted.{fronted_disk, in_memory}
use Rattle.md_read_commands.proofs.stand_in.fronted.front_each.Given as goal

abbrev pub invariant-loop-device : goal.invariant-loop-device
invariant-loop-device g l = map (fronted_disk g.D.Device) l.all.items ≡ map (λ d. in_memory (disk_of g.D.Device d)) l.yielded
