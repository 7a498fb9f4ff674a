use Rattle.std.proofs.Common.{subst}
use Rattle.md_model.specs.Events.{Event, MemberPart}
use Rattle.md_array.specs.Events.{Happens}
use Rattle.md_array.specs.Steps.StoreLog.{IfLogFailed, RefusesStoreLog}
use Rattle.md_metadata.proofs.StoredLists.{log_fails, log_halts, log_stored}
use Rattle.md_metadata.proofs.lists.store_member_log.Goals as goal

pub returns-in-Ok : goal.returns-in-Ok
returns-in-Ok g c = let e = c.in-Ok.ensures in log_stored c.args.mirror.now c.store_log.new.self c.args.k e.sound e.pending e.gives e.event

pub returns-in-Err-MemberFailed : goal.returns-in-Err-MemberFailed
returns-in-Err-MemberFailed g c =
    let at = c.in-Err-MemberFailed in
    let old = c.args.mirror.now in
    let new = c.store_log.new.self in
    log_fails old new c.args.k at.ensures.sound at.ensures.pending at.j
    (subst (RefusesStoreLog c.args.k old new) at.field-0-is at.ensures.gives)
    (subst (IfLogFailed (Happens old (Event.WriteFails c.args.k MemberPart.Log) new)) at.field-0-is at.ensures.event)

pub returns-in-Err-Halted : goal.returns-in-Err-Halted
returns-in-Err-Halted g c =
    let at = c.in-Err-Halted in
    let old = c.args.mirror.now in
    let new = c.store_log.new.self in
    log_halts old new c.args.k at.ensures.sound at.ensures.pending c.requires.running c.requires.sound (subst (RefusesStoreLog c.args.k old new) at.field-0-is at.ensures.gives)
