use Rattle.std.proofs.Common.{take, FitsSigned, rules}
use Rattle.std.specs.Int.{w32}
use Rattle.md_super.specs.Encoding.{bitmap_offset_bytes}
use Rattle.md_super.proofs.Joined.{signed_field}
use Rattle.md_super.proofs.groups.put_bitmap_offset.Goals as goal

pub returns-clause-front : goal.returns-clause-front
unfolding bitmap_offset_bytes
returns-clause-front c =
    let fits : FitsSigned w32 c.args.v.now.bitmap_offset = search rules in
    signed_field (take 96 c.args.out.now) c.args.v.now.bitmap_offset c.cast_unsigned.result fits c.cast_unsigned.ensures c.put_u32.ensures.front
