use Rattle.std.proofs.Common.{◌∙◌, ◌*◌, ap, drop}
use Rattle.md_read_commands.proofs.Stands.{on_ok, same_further}
use Rattle.md_read_commands.proofs.stand_in.put.put_and_read.Goals as goal

pub returns-clause-same_data : goal.returns-clause-same_data
returns-clause-same_data g c =
    let offset = c.args.made.now.data_offset in
    let old = g.D.Device.content c.args.device.now in
    let mid = g.D.Device.content c.put_super.new.device in
    on_ok c.read_back.result
    (ap (drop (512 * offset)) c.read_back.ensures.kept ∙ same_further 16 offset old mid c.requires c.in_ok-put_super.ensures.same_data)
