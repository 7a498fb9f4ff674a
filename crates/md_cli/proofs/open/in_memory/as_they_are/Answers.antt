use Rattle.std.proofs.Common.{◌∙◌, sym}
use Rattle.std.proofs.lemmas.Simd.{map-map}
use Rattle.md_state.specs.View.{disk_of}
use Rattle.md_read_commands.specs.Fronted.{in_memory}
use Rattle.md_cli.proofs.open.in_memory.as_they_are.Goals as goal

pub returns-in-Ok : goal.returns-in-Ok
returns-in-Ok g c = c.in-Ok.ensures ∙ sym (map-map in_memory (disk_of g.D.Device) c.args.devices.items)
