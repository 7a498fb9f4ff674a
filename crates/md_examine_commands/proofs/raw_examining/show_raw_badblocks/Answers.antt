use Rattle.std.proofs.Common.{refl, take}
use Rattle.md_members.specs.Reading.{CallFails}
use Rattle.md_raw_reports.specs.RawMembers.Raw.{RefusesRawLog}
use Rattle.md_examine_commands.specs.Examining.{IsRaw, ShowsLog, raw_log_shown}
use Rattle.md_examine_commands.proofs.Reported.{refused_raw, reported}
use Rattle.md_examine_commands.proofs.raw_examining.show_raw_badblocks.Goals as goal

pub returns-in-Ok-clause-gives : goal.returns-in-Ok-clause-gives
returns-in-Ok-clause-gives g c =
    let d = g.D.Device in
    let was = c.args.device.now in
    let call = c.put_raw_badblocks in
    let read = c.read_raw_log.new in
    let Failed = CallFails d was read.device in
    reported g.S.Sink (ShowsLog (d.content was) (d.honest was) Failed c.args.json) (IsRaw (RefusesRawLog (d.content was) (d.honest was) Failed)) c.args.out.now call.new.out (raw_log_shown c.args.json c.in-Ok.read read.superblock c.in-Ok.log.lost (take c.in-Ok.log.len read.bytes)) call.result
    (record { sectors = c.in-Ok.read; superblock = read.superblock; area = read.bytes; log = c.in-Ok.log; read = c.in-Ok.ensures.ok; placed = c.in-Ok.ensures.log; is = refl }) call.ensures

pub returns-in-Err-clause-gives : goal.returns-in-Err-clause-gives
returns-in-Err-clause-gives g c =
    let d = g.D.Device in
    let was = c.args.device.now in
    let Failed = CallFails d was c.read_raw_log.new.device in
    refused_raw g.S.Sink (ShowsLog (d.content was) (d.honest was) Failed c.args.json) (IsRaw (RefusesRawLog (d.content was) (d.honest was) Failed)) c.args.out.now c.args.out.now c.in-Err.fault c.refusal.result c.refusal.ensures refl (c.in-Err.fault, refl, c.in-Err.ensures.refused)
