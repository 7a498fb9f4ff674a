use Rattle.std.proofs.Common.{map}
use Rattle.md_state.specs.View.{disk_of}
use Rattle.md_cli.proofs.Laid.{IsLaidTo}
use Rattle.md_cli.proofs.create.lay_out_each.lay_out_each.Given as goal

abbrev pub invariant-loop-place : goal.invariant-loop-place
invariant-loop-place g l =
    let disks = map (disk_of g.D.Device) in
    IsLaidTo (disks l.fn.devices) (disks l.devices) l.members l.place
