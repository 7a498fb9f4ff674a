use Rattle.std.proofs.Common.{◌≡◌, ◌∙◌, List, ap, subst, sym}
use Rattle.md_bitmap.specs.Marks.{Bitmap}
use Rattle.md_copy.specs.Ending.Enrolled.{AreNoOrphans}
use Rattle.md_copy.proofs.Passing.PassesLack.{all_lacks}
use Rattle.std.proofs.lemmas.Result.{err_from_is_err_and}
use Rattle.md_cert.specs.declared.planned.Planned.{Planned}
use Rattle.md_copy.specs.Told.{IsToldOfPlans}
use Rattle.md_assembly.proofs.Indices.{got_within}
use Rattle.md_copy.proofs.Steps.Answered.{enrol_stops, passes_stop, rebuilds_readied}
use Rattle.md_copy.proofs.whole_rebuild.rebuild_readied.Goals as goal

pub returns-in_err-plans-clause-gives : goal.returns-in_err-plans-clause-gives
returns-in_err-plans-clause-gives g c m at =
    let p = err_from_is_err_and c.from_residual.result c.from_residual.ensures.1 in
    rw (p.1, p.2) (passes_stop c.args.target m c.args.copied.now c.args.mirror.now c.copy_passes.new.copied c.copy_passes.new.mirror c.in_err-plans.field-0.0 (c.in_err-plans.ensures.gives m at))

pub enrol_copied-requires-clause-within : goal.enrol_copied-requires-clause-within
enrol_copied-requires-clause-within g c =
    (let it = got_within c.args.mirror.now.array.members c.args.target c.requires.within in (c.in_ok-plans.ensures.gives it.0 it.1).within)

pub enrol_copied-requires-clause-ready : goal.enrol_copied-requires-clause-ready
enrol_copied-requires-clause-ready g c =
    (let it = got_within c.args.mirror.now.array.members c.args.target c.requires.within in (c.in_ok-plans.ensures.gives it.0 it.1).ready)

pub enrol_copied-requires-clause-held : goal.enrol_copied-requires-clause-held
enrol_copied-requires-clause-held g c =
    (let it = got_within c.args.mirror.now.array.members c.args.target c.requires.within in (c.in_ok-plans.ensures.gives it.0 it.1).held)

pub enrol_copied-requires-clause-few : goal.enrol_copied-requires-clause-few
enrol_copied-requires-clause-few g c =
    (let it = got_within c.args.mirror.now.array.members c.args.target c.requires.within in (c.in_ok-plans.ensures.gives it.0 it.1).few)

-- as many chunks as before the passes
pub enrol_copied-requires-clause-room : goal.enrol_copied-requires-clause-room
enrol_copied-requires-clause-room g c =
    let v = c.args.mirror.now in
    let it = got_within v.array.members c.args.target c.requires.within in
    let all = c.in_ok-plans.ensures.gives it.0 it.1 in
    let marks = (all_lacks c.args.target it.0 all.passes c.args.copied.now c.copy_passes.new.copied v c.copy_passes.new.mirror all.copies).marks in
    let many : c.args.copied.now.chunks ≡ c.copy_passes.new.copied.chunks = c.requires.none.chunks ∙ ap (λ (b : Bitmap). b.chunks) (sym marks) ∙ sym all.held.chunks in
    subst (λ n. AreNoOrphans n c.args.orphans) many c.requires.room

pub returns-in_err-told-clause-gives : goal.returns-in_err-told-clause-gives
returns-in_err-told-clause-gives g c m at =
    let p = err_from_is_err_and c.from_residual-in_err-told.result c.from_residual-in_err-told.ensures.1 in
    rw (p.1, p.2) (enrol_stops c.args.target m c.args.copied.now c.args.mirror.now at c.requires.ready c.copy_passes.new.copied c.copy_passes.new.mirror c.in_ok-plans.plans.items (c.in_ok-plans.ensures.gives m at)
    c.enrol_copied.new.copied c.enrol_copied.new.mirror c.in_err-told.field-0.0 c.in_err-told.ensures.gives)

pub returns-clause-gives : goal.returns-clause-gives
returns-clause-gives g c m at =
    rebuilds_readied c.args.target m c.args.copied.now c.args.mirror.now at c.requires.ready c.copy_passes.new.copied c.copy_passes.new.mirror c.in_ok-plans.plans.items (c.in_ok-plans.ensures.gives m at)
    c.enrol_copied.new.mirror c.store_until_done.new.mirror c.in_ok-told.told c.in_ok-told.ensures.gives c.enrol_copied.ensures.sound c.store_until_done.ensures.stores_until_done

pub returns-clause-told : goal.returns-clause-told
returns-clause-told g c = subst (λ (xs : List Planned). IsToldOfPlans g.G.Gate c.args.gate.now xs) (sym c.in_ok-told.ensures.gives.plans_are) c.in_ok-plans.ensures.told
