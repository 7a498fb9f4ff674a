use Rattle.std.proofs.lemmas.Result.{err_from_is_err_and}
use Rattle.md_resync.specs.Copying.{IsInMarkedChunk}
use Rattle.md_resync.proofs.Resynced.{agreeing_fails, all_noted, copying_sound, resyncs_or_stops}
use Rattle.md_resync.proofs.Told.{still_told}
use Rattle.md_resync.proofs.whole.resync_told.Goals as goal

pub returns-in_err-make_agree-clause-gives : goal.returns-in_err-make_agree-clause-gives
returns-in_err-make_agree-clause-gives g c =
    let p = err_from_is_err_and c.from_residual-in_err-make_agree.result c.from_residual-in_err-make_agree.ensures.1 in
    let fails = c.in_err-make_agree.ensures in
    rw (p.1, p.2) (agreeing_fails c.args.mirror.now c.store_memory_marks.new.mirror c.make_agree.new.mirror c.requires.idle c.in_ok-store_memory_marks.ensures.gives fails.two c.in_err-make_agree.field-0.0 fails.copying)

pub returns-in_err-make_agree-clause-sound : goal.returns-in_err-make_agree-clause-sound
returns-in_err-make_agree-clause-sound g c =
    let mid = c.store_memory_marks.new.mirror in
    copying_sound (IsInMarkedChunk mid.array) mid c.make_agree.new.mirror c.in_err-make_agree.field-0.0 c.in_err-make_agree.ensures.copying

pub returns-clause-gives : goal.returns-clause-gives
returns-clause-gives g c =
    let r = c.note_resynced.ensures in
    resyncs_or_stops c.args.mirror.now c.store_memory_marks.new.mirror c.make_agree.new.mirror c.note_resynced.new.self c.clear_stored.new.mirror c.requires.idle
    c.in_ok-store_memory_marks.ensures.gives c.in_ok-make_agree.ensures r.gives r.event r.sound c.clear_stored.result c.clear_stored.ensures.gives

pub note_resynced-requires-clause-stored : goal.note_resynced-requires-clause-stored
note_resynced-requires-clause-stored g c =
    all_noted c.store_memory_marks.new.mirror.array c.make_agree.new.mirror.array c.in_ok-store_memory_marks.ensures.gives.stored c.in_ok-make_agree.ensures.array

pub make_agree-requires-clause-may : goal.make_agree-requires-clause-may
make_agree-requires-clause-may g c =
    let s = c.in_ok-store_memory_marks.ensures.gives in
    record { idle = s.advances.idle; stored = s.stored; told = still_told c.args.mirror.now c.store_memory_marks.new.mirror s c.requires.told }
