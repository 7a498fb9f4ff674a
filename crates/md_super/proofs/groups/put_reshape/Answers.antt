use Rattle.std.proofs.Common.{take}
use Rattle.byteorder.specs.Endian.{little_bytes}
use Rattle.md_super.specs.Encoding.{reshape_bytes}
use Rattle.md_super.proofs.Joined.{group_6}
use Rattle.md_super.proofs.groups.put_reshape.Goals as goal

pub returns-clause-front : goal.returns-clause-front
unfolding reshape_bytes
returns-clause-front c =
    let v = c.args.v.now in
    group_6 (take 100 c.args.out.now) (little_bytes 4 v.new_level) (little_bytes 8 v.reshape_position) (little_bytes 4 v.delta_disks) (little_bytes 4 v.new_layout) (little_bytes 4 v.new_chunk) (little_bytes 4 v.new_offset)
    c.put_u32.ensures.front c.put_u64.ensures.front c.put_u32-2.ensures.front c.put_u32-3.ensures.front c.put_u32-4.ensures.front c.put_u32-5.ensures.front
