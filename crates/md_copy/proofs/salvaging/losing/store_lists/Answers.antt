use Rattle.std.proofs.Common.{◌∙◌, arith}
use Rattle.std.proofs.lemmas.Result.{err_from_is_err_and}
use Rattle.md_copy.specs.Salvaging.Losing.{every_role}
use Rattle.md_copy.proofs.Listings.ListsStored.{below_all, below_more, below_none, lists_stop, room_below, unspent_below}
use Rattle.md_copy.proofs.SalvageLemmas.ListsGrown.{storing_sound}
use Rattle.md_copy.proofs.salvaging.losing.store_lists.Goals as goal

pub loop-k-init : goal.loop-k-init
loop-k-init g c = below_none every_role c.args.mirror.now c.requires.sound c.requires.recorded

pub store_if_in_sync-requires-clause-within : goal.store_if_in_sync-requires-clause-within
store_if_in_sync-requires-clause-within g c =
    let many = c.loop-k.invariant.goes.goes.array.as_many in
    let count = c.members-k-end.ensures in
    omega arith

pub store_if_in_sync-requires-clause-sound : goal.store_if_in_sync-requires-clause-sound
store_if_in_sync-requires-clause-sound g c = c.loop-k.invariant.goes.goes.sound

pub store_if_in_sync-requires-clause-running : goal.store_if_in_sync-requires-clause-running
store_if_in_sync-requires-clause-running g c = c.loop-k.invariant.goes.halted ∙ c.requires.running

pub store_if_in_sync-requires-clause-unspent : goal.store_if_in_sync-requires-clause-unspent
store_if_in_sync-requires-clause-unspent g c = unspent_below every_role c.loop-k.k c.args.mirror.now c.loop-k.mirror c.loop-k.invariant c.requires.unspent

pub store_if_in_sync-requires-clause-recorded : goal.store_if_in_sync-requires-clause-recorded
store_if_in_sync-requires-clause-recorded g c = c.loop-k.invariant.recorded

pub store_if_in_sync-requires-clause-room : goal.store_if_in_sync-requires-clause-room
store_if_in_sync-requires-clause-room g c = room_below every_role c.loop-k.k c.args.mirror.now c.loop-k.mirror c.loop-k.invariant c.requires.room

pub returns-in_err-store_if_in_sync-clause-gives : goal.returns-in_err-store_if_in_sync-clause-gives
returns-in_err-store_if_in_sync-clause-gives g c =
    let p = err_from_is_err_and c.from_residual.result c.from_residual.ensures.1 in
    rw (p.1, p.2) (lists_stop every_role c.loop-k.k c.args.mirror.now c.loop-k.mirror c.loop-k.invariant c.requires.sound c.requires.room
    c.store_if_in_sync.new.mirror c.in_err-store_if_in_sync.field-0.0 c.in_err-store_if_in_sync.ensures)

pub returns-in_err-store_if_in_sync-clause-sound : goal.returns-in_err-store_if_in_sync-clause-sound
returns-in_err-store_if_in_sync-clause-sound g c = storing_sound c.loop-k.mirror c.store_if_in_sync.new.mirror c.in_err-store_if_in_sync.field-0.0 c.in_err-store_if_in_sync.ensures

pub loop-k-preserved : goal.loop-k-preserved
loop-k-preserved g c =
    below_more every_role c.loop-k.k c.args.mirror.now c.loop-k.mirror c.loop-k.invariant c.store_if_in_sync.new.mirror c.in_ok-store_if_in_sync.ensures

pub returns-clause-gives : goal.returns-clause-gives
returns-clause-gives g c =
    let past = c.loop-k-test.false in
    let count = c.members-k-end.ensures in
    let many = c.loop-k.invariant.goes.goes.array.as_many in
    below_all every_role c.loop-k.k c.args.mirror.now c.loop-k.mirror c.loop-k.invariant (omega arith)

pub returns-clause-sound : goal.returns-clause-sound
returns-clause-sound g c = c.loop-k.invariant.goes.goes.sound
