use Rattle.std.proofs.Common.{◌≡◌, ◌*◌, length, arith}
use Rattle.md_read_commands.proofs.Fronts.{drop_outside}
use Rattle.md_read_commands.proofs.stand_in.put.put_super.Goals as goal

pub returns-in-Ok-clause-same_data : goal.returns-in-Ok-clause-same_data
returns-in-Ok-clause-same_data g c =
    let block : length c.encode_member.new.out ≡ 4096 = omega arith in
    drop_outside (g.D.Device.content c.args.device.now) (g.D.Device.content c.write.new.self) (512 * 8) (length c.encode_member.new.out) (512 * 16) c.write.ensures.outside (omega (arith, block))
