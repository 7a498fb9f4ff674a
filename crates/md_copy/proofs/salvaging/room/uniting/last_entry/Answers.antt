use Rattle.std.proofs.Common.{◌-◌, ◌/◌, arith}
use Rattle.md_copy.proofs.salvaging.room.uniting.last_entry.Goals as goal

pub returns : goal.returns
returns c =
    let some = c.requires in
    ((c.args.end - 1 - c.args.entry) / 512, omega (arith, some), omega (arith, some), omega (arith, some))
