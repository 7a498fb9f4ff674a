use Rattle.std.proofs.Common.{take}
use Rattle.byteorder.specs.Endian.{little_bytes}
use Rattle.md_super.specs.Encoding.{place_bytes}
use Rattle.md_super.proofs.Joined.{group_6}
use Rattle.md_super.proofs.groups.put_places.Goals as goal

pub returns-clause-front : goal.returns-clause-front
unfolding place_bytes
returns-clause-front c =
    let v = c.args.v.now in
    group_6 (take 128 c.args.out.now) (little_bytes 8 v.data_offset) (little_bytes 8 v.data_size) (little_bytes 8 v.super_offset) (little_bytes 8 v.recovery_offset) (little_bytes 4 v.dev_number) (little_bytes 4 v.cnt_corrected_read)
    c.put_u64.ensures.front c.put_u64-2.ensures.front c.put_u64-3.ensures.front c.put_u64-4.ensures.front c.put_u32.ensures.front c.put_u32-2.ensures.front
