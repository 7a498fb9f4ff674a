use Rattle.md_state.specs.Steps.MakeClean.{IsIdle}
use Rattle.md_resync.proofs.Advancing.{is_idle, none_pending}
use Rattle.md_resync.proofs.Told.{refuses}
use Rattle.md_resync.proofs.whole.resync.Goals as goal

pub returns-in-Ok-clause-pending : goal.returns-in-Ok-clause-pending
returns-in-Ok-clause-pending g c =
    let old = c.args.mirror.now.array in
    let idle : IsIdle old = is_idle old c.halted.result c.in_flight.result c.halted.ensures c.if-halted.false c.in_flight.ensures c.in_default.is in
    none_pending old c.resync_idle.new.mirror.array idle

pub returns-in-Err-clause-gives : goal.returns-in-Err-clause-gives
returns-in-Err-clause-gives g c =
    let old = c.args.mirror.now.array in
    let idle : IsIdle old = is_idle old c.halted.result c.in_flight.result c.halted.ensures c.if-halted.false c.in_flight.ensures c.in_default.is in
    refuses c.args.mirror.now c.resync_idle.new.mirror c.give_up.new.mirror idle c.give_up.ensures.gives c.in-Err.fault c.in-Err.ensures.gives

pub returns-in-Err-clause-pending : goal.returns-in-Err-clause-pending
returns-in-Err-clause-pending g c =
    let old = c.args.mirror.now.array in
    let idle : IsIdle old = is_idle old c.halted.result c.in_flight.result c.halted.ensures c.if-halted.false c.in_flight.ensures c.in_default.is in
    none_pending old c.give_up.new.mirror.array idle
