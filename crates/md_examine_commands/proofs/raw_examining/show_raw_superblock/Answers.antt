use Rattle.std.proofs.Common.{refl}
use Rattle.md_members.specs.Reading.{CallFails}
use Rattle.md_raw_reports.specs.RawMembers.Raw.{RefusesRawSuper}
use Rattle.md_examine_commands.specs.Examining.{IsRaw, ShowsSuper, raw_superblock_shown}
use Rattle.md_examine_commands.proofs.Reported.{refused_raw, reported}
use Rattle.md_examine_commands.proofs.raw_examining.show_raw_superblock.Goals as goal

pub returns-in-Ok-clause-gives : goal.returns-in-Ok-clause-gives
returns-in-Ok-clause-gives g c =
    let d = g.D.Device in
    let was = c.args.device.now in
    let call = c.put_raw_superblock in
    let read = c.read_raw_super.new in
    let Failed = CallFails d was read.device in
    reported g.S.Sink (ShowsSuper (d.content was) (d.honest was) Failed c.args.json) (IsRaw (RefusesRawSuper (d.content was))) c.args.out.now call.new.out (raw_superblock_shown c.args.json c.in-Ok.parts.0 read.bytes c.in-Ok.parts.1) call.result
    (record { sectors = c.in-Ok.parts.0; bytes = read.bytes; found = c.in-Ok.parts.1; read = c.in-Ok.ensures.ok; elsewhere = c.in-Ok.ensures.finds; is = refl }) call.ensures

pub returns-in-Err-clause-gives : goal.returns-in-Err-clause-gives
returns-in-Err-clause-gives g c =
    let d = g.D.Device in
    let was = c.args.device.now in
    let Failed = CallFails d was c.read_raw_super.new.device in
    refused_raw g.S.Sink (ShowsSuper (d.content was) (d.honest was) Failed c.args.json) (IsRaw (RefusesRawSuper (d.content was))) c.args.out.now c.args.out.now c.in-Err.fault c.refusal.result c.refusal.ensures refl (c.in-Err.fault, refl, c.in-Err.ensures.refused)
