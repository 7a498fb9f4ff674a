use Rattle.std.proofs.Common.{refl}
use Rattle.md_members.specs.Reading.{CallFails}
use Rattle.md_raw_reports.specs.RawMembers.Raw.{RefusesRawBitmap}
use Rattle.md_examine_commands.specs.Examining.{IsRaw, ShowsBitmap, raw_bitmap_shown}
use Rattle.md_examine_commands.proofs.Reported.{refused_raw, reported}
use Rattle.md_examine_commands.proofs.raw_examining.show_raw_bitmap.Goals as goal

pub returns-in-Ok-clause-gives : goal.returns-in-Ok-clause-gives
returns-in-Ok-clause-gives g c =
    let d = g.D.Device in
    let was = c.args.device.now in
    let call = c.put_raw_bitmap in
    let read = c.read_raw_bitmap.new in
    let Failed = CallFails d was read.device in
    reported g.S.Sink (ShowsBitmap (d.content was) (d.honest was) Failed c.args.json) (IsRaw (RefusesRawBitmap (d.content was) (d.honest was) Failed)) c.args.out.now call.new.out (raw_bitmap_shown c.args.json c.in-Ok.read read.superblock c.in-Ok.bitmap) call.result
    (record { sectors = c.in-Ok.read; superblock = read.superblock; bitmap = c.in-Ok.bitmap; read = c.in-Ok.ensures.ok; placed = c.in-Ok.ensures.bitmap; is = refl }) call.ensures

pub returns-in-Err-clause-gives : goal.returns-in-Err-clause-gives
returns-in-Err-clause-gives g c =
    let d = g.D.Device in
    let was = c.args.device.now in
    let Failed = CallFails d was c.read_raw_bitmap.new.device in
    refused_raw g.S.Sink (ShowsBitmap (d.content was) (d.honest was) Failed c.args.json) (IsRaw (RefusesRawBitmap (d.content was) (d.honest was) Failed)) c.args.out.now c.args.out.now c.in-Err.fault c.refusal.result c.refusal.ensures refl (c.in-Err.fault, refl, c.in-Err.ensures.refused)
