use Rattle.std.proofs.Common.{◌≡◌, ◌+◌, ◌-◌, ◌*◌, length, take, replicate, arith}
use Rattle.std.specs.List.{flat_map}
use Rattle.byteorder.specs.Endian.{little_bytes}
use Rattle.md_super.specs.Encoding.{back_bytes}
use Rattle.md_super.proofs.Joined.{group_4}
use Rattle.md_super.proofs.encoding.put_back.Goals as goal

pub returns-clause-whole : goal.returns-clause-whole
unfolding back_bytes
returns-clause-whole c =
    let roles = c.args.roles.now in
    let rest : 4096 - (256 + 2 * length c.args.roles.now) ≡ 3840 - 2 * length c.args.roles.now = omega arith in
    group_4 (take 220 c.args.out.now) (little_bytes 4 (length roles)) (replicate 32 0) (flat_map (little_bytes 2) roles) (replicate (3840 - 2 * length roles) 0)
    c.put_u32.ensures.front c.put_bytes.ensures.front c.put_role_list.ensures.front (rw rest at c.put_zeros.ensures)
