use Rattle.md_state.specs.View.{disk_of}
use Rattle.md_read_commands.proofs.StandIns.{lacks_super}
use Rattle.md_read_commands.proofs.stand_in.own.own_of.Goals as goal

pub returns-in_ok-check_header_of-in-Err-clause-lacks : goal.returns-in_ok-check_header_of-in-Err-clause-lacks
returns-in_ok-check_header_of-in-Err-clause-lacks g c =
    let of = disk_of g.D.Device in
    lacks_super c.args.freshest.now c.args.number c.in_ok-may_list-in-Err.may_list (of c.args.device.now) (of c.read_super.new.device) (of c.check_front_of.new.device) (of c.check_header_of.new.device) c.in-Err.fault c.in_ok-check_lost-in-Err.ensures c.in-Err.ensures.reads
    c.read_super.ensures.kept c.read_super.ensures.honest c.read_super.ensures.counted c.in_ok-may_list-in-Err.ensures.fits
    c.check_front_of.ensures.kept c.check_front_of.ensures.honest c.check_front_of.ensures.counted c.in_ok-check_header_of-in-Err.ensures.fits
    c.check_header_of.ensures.counted
