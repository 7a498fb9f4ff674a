use Rattle.std.proofs.Common.{◌+◌, ◌*◌, ◌-◌, length, refl, arith}
use Rattle.byteorder.specs.Endian.{little_bytes}
use Rattle.md_badblocks.proofs.Entries.{front_written}
use Rattle.md_badblocks.proofs.log.write_entry.Goals as goal

pub returns : goal.returns
returns c =
    let buf = c.args.buf.now in
    front_written (8 * c.args.place) (length buf - 8 * c.args.place) (8 * (c.args.place + 1)) buf c.write_u64.new.buf (little_bytes 8 c.args.entry) _ c.write_u64.ensures (omega arith) refl (omega arith)
