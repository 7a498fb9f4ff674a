use Rattle.std.proofs.Common.{◌≡◌, ◌/◌, ◌%◌, arith, bit_and}
use Rattle.std.proofs.lemmas.Nat.{and_mask}
use Rattle.md_badblocks.proofs.Entries.{shifted}
use Rattle.md_badblocks.proofs.log.run_of.Goals as goal

pub returns : goal.returns
returns c =
    let mask : bit_and c.args.entry 1023 ≡ c.args.entry % 1024 = and_mask c.args.entry 10 in
    let start = shifted (c.args.entry / 1024) c.args.shift (omega arith) c.requires in
    let len = shifted (c.args.entry % 1024) c.args.shift (omega arith) c.requires in
    rw (mask, start, len)
