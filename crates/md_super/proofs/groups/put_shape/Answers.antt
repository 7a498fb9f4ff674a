use Rattle.std.proofs.Common.{take}
use Rattle.byteorder.specs.Endian.{little_bytes}
use Rattle.md_super.specs.Encoding.{shape_bytes}
use Rattle.md_super.proofs.Joined.{group_6}
use Rattle.md_super.proofs.groups.put_shape.Goals as goal

pub returns-clause-front : goal.returns-clause-front
unfolding shape_bytes
returns-clause-front c =
    let v = c.args.v.now in
    group_6 (take 64 c.args.out.now) (little_bytes 8 v.ctime) (little_bytes 4 v.level) (little_bytes 4 v.layout) (little_bytes 8 v.size) (little_bytes 4 v.chunksize) (little_bytes 4 v.raid_disks)
    c.put_u64.ensures.front c.put_u32.ensures.front c.put_u32-2.ensures.front c.put_u64-2.ensures.front c.put_u32-3.ensures.front c.put_u32-4.ensures.front
