use Rattle.md_read_commands.proofs.Stands.{stands_in}
use Rattle.md_read_commands.proofs.stand_in.put.stand_in_beside.Goals as goal

pub returns : goal.returns
returns g c =
    stands_in g.D.Device c.args.wanted c.args.header.now.chunksize c.args.freshest.now c.in_ok-own.own c.in-Ok.made c.args.device c.own_of.new.device c.with_both.result
    c.in-Ok.ensures.offset c.in-Ok.ensures.made c.in_ok-own.ensures.lacks c.in_ok-own.ensures.kept c.in_ok-own.ensures.honest
    c.with_both.ensures.reads c.with_both.ensures.same_data c.with_both.ensures.honest c.with_both.ensures.counted c.with_both.ensures.log
