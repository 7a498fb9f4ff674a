use Rattle.std.proofs.Common.{take}
use Rattle.byteorder.specs.Endian.{little_bytes}
use Rattle.md_super.specs.Encoding.{state_bytes}
use Rattle.md_super.proofs.Joined.{group_3}
use Rattle.md_super.proofs.groups.put_counts.Goals as goal

pub returns-clause-front : goal.returns-clause-front
unfolding state_bytes
returns-clause-front c =
    let v = c.args.v.now in
    group_3 (take 192 c.args.out.now) (little_bytes 8 v.utime) (little_bytes 8 v.events) (little_bytes 8 v.resync_offset)
    c.put_u64.ensures.front c.put_u64-2.ensures.front c.put_u64-3.ensures.front
