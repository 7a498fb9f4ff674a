use Rattle.std.proofs.Common.{◌<◌, arith, length, refl}
use Rattle.std.proofs.lemmas.Result.{err_from_is_err_and}
use Rattle.md_refusals.specs.declared.data_of_fault.DataOfFault.TheVariants as data_of
use Rattle.md_cli.proofs.StoodIn.{refused, refused_beside, stood_in}
use Rattle.md_cli.proofs.open.in_memory.with_counted.Goals as goal

pub returns-in_err-mirror-clause-gives : goal.returns-in_err-mirror-clause-gives
returns-in_err-mirror-clause-gives g c =
    let below : c.args.wanted.index < length c.args.devices.items = omega (arith, c.if-wanted-len.false, c.len.ensures, c.args.devices.ok.0) in
    let p = err_from_is_err_and c.from_residual.result c.from_residual.ensures.1 in
    rw (p.1, p.2) (refused_beside g.D.Device c.args.devices.items c.args.wanted c.in_err-mirror.field-0.0 below c.in_err-mirror.ensures)

pub returns-in-Err-clause-gives : goal.returns-in-Err-clause-gives
returns-in-Err-clause-gives g c =
    let below : c.args.wanted.index < length c.args.devices.items = omega (arith, c.if-wanted-len.false, c.len.ensures, c.args.devices.ok.0) in
    refused g.D.Device c.args.devices.items c.args.wanted c.refusal_of-in-Err.result below c.in-Err.fault c.refusal_of-in-Err.ensures

pub returns-in-Err-insert-clause-gives : goal.returns-in-Err-insert-clause-gives
returns-in-Err-insert-clause-gives g c =
    let below : c.args.wanted.index < length c.args.devices.items = omega (arith, c.if-wanted-len.false, c.len.ensures, c.args.devices.ok.0) in
    refused g.D.Device c.args.devices.items c.args.wanted _ below data_of.NoMemory refl

pub returns-in-Ok-insert-clause-gives : goal.returns-in-Ok-insert-clause-gives
returns-in-Ok-insert-clause-gives g c =
    let below : c.args.wanted.index < length c.args.devices.items = omega (arith, c.if-wanted-len.false, c.len.ensures, c.args.devices.ok.0) in
    stood_in g.D.Device c.args.devices.items c.remove-lost.new.self.items c.into_devices-all.result.items c.in_ok-mirror.mirror c.args.wanted c.remove-lost.result c.in-Ok.kept c.insert.new.self.items
    below c.remove-lost.ensures.value c.remove-lost.ensures.items c.in_ok-mirror.ensures c.into_devices-all.ensures c.in-Ok.ensures.free c.in-Ok.ensures.stands c.in-Ok-insert.ensures.items
