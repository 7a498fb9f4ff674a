use Rattle.std.proofs.Common.{◌∙◌, ◌<◌, length, inl, arith}
use Rattle.std.proofs.lemmas.Result.{err_from_is_err_and}
use Rattle.md_commands.proofs.SetAside.{in_sync_then, room_then, stored_or_not, stored_sound, unrecorded_sound}
use Rattle.md_commands.proofs.setting_aside.store_with_due.Goals as goal

pub returns-in_err-store_records-clause-gives : goal.returns-in_err-store_records-clause-gives
returns-in_err-store_records-clause-gives g c =
    let p = err_from_is_err_and c.from_residual.result c.from_residual.ensures.1 in
    rw (p.1, p.2) (inl c.in_err-store_records.ensures.gives)

pub returns-in_err-store_records-clause-sound : goal.returns-in_err-store_records-clause-sound
returns-in_err-store_records-clause-sound g c = unrecorded_sound c.in_err-store_records.field-0.0 c.args.mirror.now c.store_records.new.mirror c.in_err-store_records.ensures.gives

pub store_list-requires-clause-within : goal.store_list-requires-clause-within
store_list-requires-clause-within g c =
    let many = c.in_ok-store_records.ensures.gives.stores.goes.array.as_many in
    let within = c.requires.within in
    omega arith

pub store_list-requires-clause-sound : goal.store_list-requires-clause-sound
store_list-requires-clause-sound g c = c.in_ok-store_records.ensures.gives.stores.goes.sound

pub store_list-requires-clause-running : goal.store_list-requires-clause-running
store_list-requires-clause-running g c = c.in_ok-store_records.ensures.gives.stores.ready.halted ∙ c.requires.running

pub store_list-requires-clause-in_sync : goal.store_list-requires-clause-in_sync
store_list-requires-clause-in_sync g c = in_sync_then c.args.k c.args.mirror.now c.store_records.new.mirror c.in_ok-store_records.ensures.gives c.requires.in_sync

pub store_list-requires-clause-room : goal.store_list-requires-clause-room
store_list-requires-clause-room g c = room_then c.args.k c.args.mirror.now c.store_records.new.mirror c.in_ok-store_records.ensures.gives c.requires.room

pub store_list-requires-clause-earlier : goal.store_list-requires-clause-earlier
store_list-requires-clause-earlier g c j m low on = c.in_ok-store_records.ensures.gives.done j m on

pub returns-clause-gives : goal.returns-clause-gives
returns-clause-gives g c =
    stored_or_not c.args.k c.args.mirror.now c.store_records.new.mirror c.store_list.new.mirror c.in_ok-store_records.ensures.gives c.store_list.result c.store_list.ensures

pub returns-clause-sound : goal.returns-clause-sound
returns-clause-sound g c = stored_sound c.args.k c.store_records.new.mirror c.store_list.new.mirror c.store_list.result c.store_list.ensures
