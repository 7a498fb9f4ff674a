use Rattle.std.proofs.Common.{◌/◌, length, arith}
use Rattle.md_read_commands.proofs.Filled.{lacks_as_told, not_given}
use Rattle.md_read_commands.proofs.Ways.{ends_rest, reads_rests}
use Rattle.md_read_commands.proofs.reader.read_given.Goals as goal

pub returns-in-Ok-clause-rests : goal.returns-in-Ok-clause-rests
returns-in-Ok-clause-rests g c =
    reads_rests c.args.way c.args.sector c.read_by.new.piece c.args.mirror.now c.read_by.new.mirror c.in-Ok.ensures.gives

pub returns-in-Err-clause-gives : goal.returns-in-Err-clause-gives
returns-in-Err-clause-gives g c =
    let same = c.read_by.auto.piece in
    not_given c.args.mirror.now c.read_by.new.mirror c.requires.sound c.args.sector c.in-Err.unread.sector c.read_by.new.piece c.args.way c.in-Err.unread.fault c.in-Err.ensures.gives
    (length c.args.buf.now / 512) (omega arith)

pub returns-in-Err-clause-why : goal.returns-in-Err-clause-why
returns-in-Err-clause-why g c =
    let same = c.read_by.auto.piece in
    lacks_as_told c.args.mirror.now c.read_by.new.mirror c.requires.sound c.args.sector c.in-Err.unread.sector c.read_by.new.piece c.args.way c.in-Err.unread.fault c.in-Err.ensures.gives
    (length c.args.buf.now / 512) (omega arith)

pub returns-in-Err-clause-rests : goal.returns-in-Err-clause-rests
returns-in-Err-clause-rests g c =
    ends_rest c.args.way c.args.sector c.in-Err.unread.sector c.read_by.new.piece c.args.mirror.now c.read_by.new.mirror c.in-Err.unread.fault c.in-Err.ensures.gives
