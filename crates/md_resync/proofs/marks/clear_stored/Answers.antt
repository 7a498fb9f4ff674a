use Rattle.std.proofs.Common.{◌≡◌, ◌∙◌, false, sym}
use Rattle.md_state.specs.Members.{is_degraded}
use Rattle.md_resync.proofs.Cleared.{cleared_nothing}
use Rattle.md_resync.proofs.Resynced.{cleared_or_stops}
use Rattle.md_resync.proofs.marks.clear_stored.Goals as goal

pub returns-then-degraded-clause-gives : goal.returns-then-degraded-clause-gives
returns-then-degraded-clause-gives g c = cleared_nothing c.args.mirror.now c.requires.idle c.requires.sound (sym c.degraded.ensures.roles ∙ c.if-degraded.true) c.requires.stored

pub returns-clause-gives : goal.returns-clause-gives
returns-clause-gives g c =
    let full : is_degraded c.args.mirror.now.array ≡ false = sym c.degraded.ensures.roles ∙ c.if-degraded.false in
    cleared_or_stops c.args.mirror.now c.clear_marks.new.mirror c.store_memory_marks.new.mirror c.requires.idle full c.clear_marks.ensures c.store_memory_marks.result c.store_memory_marks.ensures.gives
