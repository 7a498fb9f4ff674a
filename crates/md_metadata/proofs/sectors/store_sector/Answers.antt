use Rattle.std.proofs.Common.{subst}
use Rattle.md_model.specs.Events.{Event, MemberPart}
use Rattle.md_state.specs.Steps.StoreMarks.{RefusesMarkSector}
use Rattle.md_array.specs.Events.{Happens, IfStoringFailed}
use Rattle.md_metadata.proofs.Steps.{sector_fails, sector_halts, sector_refused, sector_stored}
use Rattle.md_metadata.proofs.sectors.store_sector.Goals as goal

pub returns-in-Ok : goal.returns-in-Ok
returns-in-Ok g c = let e = c.in-Ok.ensures in sector_stored c.args.mirror.now c.store_marks.new.self c.args.k c.args.block e.sound e.pending e.gives e.event

pub returns-in-Err-MemberFailed : goal.returns-in-Err-MemberFailed
returns-in-Err-MemberFailed g c =
    let at = c.in-Err-MemberFailed in
    let old = c.args.mirror.now in
    let new = c.store_marks.new.self in
    sector_fails old new c.args.k c.args.block at.ensures.sound at.ensures.pending c.requires.due at.j
    (subst (RefusesMarkSector c.args.k c.args.block old new) at.field-0-is at.ensures.gives)
    (subst (IfStoringFailed (Happens old (Event.WriteFails c.args.k (MemberPart.BitmapSector c.args.block)) new)) at.field-0-is at.ensures.event)

pub returns-in-Err-Halted : goal.returns-in-Err-Halted
returns-in-Err-Halted g c =
    let at = c.in-Err-Halted in
    let old = c.args.mirror.now in
    let new = c.store_marks.new.self in
    sector_halts old new c.args.k c.args.block at.ensures.sound at.ensures.pending c.requires.running c.requires.sound
    (subst (RefusesMarkSector c.args.k c.args.block old new) at.field-0-is at.ensures.gives)

pub returns-in-Err-NotActive : goal.returns-in-Err-NotActive
returns-in-Err-NotActive g c =
    let at = c.in-Err-NotActive in
    sector_refused c.args.mirror.now c.store_marks.new.self c.args.k c.args.block c.requires.in_sync
    (subst (RefusesMarkSector c.args.k c.args.block c.args.mirror.now c.store_marks.new.self) at.field-0-is at.ensures.gives)
