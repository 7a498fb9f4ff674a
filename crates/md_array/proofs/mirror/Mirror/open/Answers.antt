use Rattle.std.proofs.Common.{map, subst, sym, arith}
use Rattle.std.proofs.lemmas.List.{with_items_is}
use Rattle.md_state.specs.View.{disk_of}
use Rattle.md_array.specs.Consistency.{IsConsistent}
use Rattle.md_array.proofs.Openings.Consistent.{consistent}
use Rattle.md_array.proofs.mirror.Mirror.open.Goals as goal

pub returns-in-Ok-clause-sound : goal.returns-in-Ok-clause-sound
returns-in-Ok-clause-sound g c =
    let disk = disk_of g.D.Device in
    let same = with_items_is c.args.devices c.open_array.new.devices (omega (arith, c.open_array.ensures.len, c.deref_mut.ensures.len, c.args.devices.ok.0)) in
    subst (λ devices. IsConsistent (record { disks = map disk devices; array = c.in-Ok.array })) (sym same) (consistent _ _ c.in-Ok.ensures.ok)
