use Rattle.byteorder.specs.Endian.{little_bytes}
use Rattle.md_super.specs.Encoding.{head_bytes}
use Rattle.md_super.proofs.Joined.{joined}
use Rattle.md_super.proofs.groups.put_head.Goals as goal

pub returns-clause-front : goal.returns-clause-front
unfolding head_bytes
returns-clause-front c =
    let magics = joined (little_bytes 4 1) c.put_u32.ensures.front c.put_u32-2.ensures.front in
    joined (little_bytes 4 0) (joined (little_bytes 4 c.args.v.now.feature_map) magics c.put_u32-3.ensures.front) c.put_u32-4.ensures.front
