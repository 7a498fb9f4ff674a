use Rattle.std.proofs.Common.{◌/◌, ◌<◌, length, arith}
use Rattle.md_array.proofs.General.Resting.{rests_sound}
use Rattle.md_read.proofs.PartsRead.{all_given, first_alone, front_whole, source_failed, tries_rests}
use Rattle.md_read.proofs.sources.read_marked.Goals as goal

pub read_first-requires-clause-sound : goal.read_first-requires-clause-sound
read_first-requires-clause-sound g c =
    let old = c.args.mirror.now in
    let mid = c.read_source.new.mirror in
    rests_sound old mid (tries_rests c.args.sector c.args.buf.now c.read_source.new.buf old mid c.read_source.result c.read_source.ensures) c.requires.sound

pub returns-in-All : goal.returns-in-All
returns-in-All g c =
    let old = c.args.mirror.now in
    let new = c.read_source.new.mirror in
    let was = c.args.buf.now in
    let bytes = c.read_source.new.buf in
    let long = c.read_source.auto.buf in
    front_whole c.args.sector was bytes old new long c.requires.some c.requires.whole
    (all_given c.args.sector was bytes old new long c.requires.whole c.requires.marked c.in-All.ensures)

pub returns-in-Failed : goal.returns-in-Failed
returns-in-Failed g c =
    let some = c.requires.some in
    let here : 0 < length c.args.buf.now / 512 = omega arith in
    source_failed c.args.sector c.args.buf.now c.read_source.new.buf c.args.mirror.now c.read_source.new.mirror c.in-Failed.k here (c.requires.marked c.args.sector (omega arith) (omega arith)) c.in-Failed.ensures

pub returns-in-Several : goal.returns-in-Several
returns-in-Several g c =
    let old = c.args.mirror.now in
    let mid = c.read_source.new.mirror in
    let rests = tries_rests c.args.sector c.args.buf.now c.read_source.new.buf old mid c.read_source.result c.read_source.ensures in
    first_alone c.args.sector c.args.buf.now c.read_first.new.buf old mid c.read_first.new.mirror rests c.in-Several.ensures.2 c.requires.some c.read_first.result c.read_first.ensures
