use Rattle.md_members.specs.Reading.{CallFails}
use Rattle.md_raw_reports.proofs.RawMemberLemmas.Found.{found_in}
use Rattle.md_raw_reports.proofs.raw_members.elsewhere.look_at.Goals as goal

pub returns-in-Ok-clause-finds : goal.returns-in-Ok-clause-finds
returns-in-Ok-clause-finds g c =
    let d = g.D.Device in
    let old = c.args.device.now in
    let read = c.in-Ok.ensures.ok in
    found_in (d.content old) (d.honest old) (CallFails d old c.read_sectors.new.device) c.args.sector c.read_sectors.new.buf c.start_of_super.result read.within read.from_device c.start_of_super.ensures
