use Rattle.std.proofs.Common.{refl, inl}
use Rattle.std.proofs.lemmas.Result.{err_from_is_err_and}
use Rattle.md_assembly.proofs.Indices.{got_within}
use Rattle.md_copy.proofs.SalvageLemmas.ReadiedSalvage.{enrol_ends, filled_within, left_ends, lost_low, pass_held, pass_ready, pass_then, pass_within, salvages_readied}
use Rattle.md_copy.proofs.salvaging.whole_salvage.salvage_readied.Goals as goal

pub returns-in_err-planned-clause-gives : goal.returns-in_err-planned-clause-gives
returns-in_err-planned-clause-gives g c m at =
    let p = err_from_is_err_and c.from_residual.result c.from_residual.ensures.1 in
    rw (p.1, p.2) (inl (c.in_err-planned.ensures.gives m at))

pub salvage_left-requires-clause-within : goal.salvage_left-requires-clause-within
salvage_left-requires-clause-within g c =
    let it = got_within c.args.mirror.now.array.members c.args.target c.requires.within in
    pass_within c.args.target it.0 c.args.copied.now c.args.mirror.now it.1 c.requires.ready c.requires.none c.copy_whole.new.copied c.copy_whole.new.mirror c.in_ok-planned.planned (c.in_ok-planned.ensures.gives it.0 it.1)

pub salvage_left-requires-clause-ready : goal.salvage_left-requires-clause-ready
salvage_left-requires-clause-ready g c =
    let it = got_within c.args.mirror.now.array.members c.args.target c.requires.within in
    pass_ready c.args.target it.0 c.args.copied.now c.args.mirror.now it.1 c.requires.ready c.requires.none c.copy_whole.new.copied c.copy_whole.new.mirror c.in_ok-planned.planned (c.in_ok-planned.ensures.gives it.0 it.1)

pub salvage_left-requires-clause-held : goal.salvage_left-requires-clause-held
salvage_left-requires-clause-held g c =
    let it = got_within c.args.mirror.now.array.members c.args.target c.requires.within in
    pass_held c.args.target it.0 c.args.copied.now c.args.mirror.now it.1 c.requires.ready c.requires.none c.copy_whole.new.copied c.copy_whole.new.mirror c.in_ok-planned.planned (c.in_ok-planned.ensures.gives it.0 it.1)

pub returns-in_err-lost-clause-gives : goal.returns-in_err-lost-clause-gives
returns-in_err-lost-clause-gives g c m at =
    let p = err_from_is_err_and c.from_residual-in_err-lost.result c.from_residual-in_err-lost.ensures.1 in
    let h = c.in_ok-planned.ensures.gives m at in
    let then = pass_then c.args.target m c.args.copied.now c.args.mirror.now at c.requires.ready c.requires.none c.copy_whole.new.copied c.copy_whole.new.mirror c.in_ok-planned.planned h in
    rw (p.1, p.2) (left_ends c.args.target m c.args.copied.now c.args.mirror.now at c.requires.ready c.requires.none c.copy_whole.new.copied c.copy_whole.new.mirror c.in_ok-planned.planned h
    c.salvage_left.new.copied c.salvage_left.new.mirror c.in_err-lost.field-0.0 (c.in_err-lost.ensures.gives then.0 then.1))

pub enrol_salvaged-requires-clause-within : goal.enrol_salvaged-requires-clause-within
enrol_salvaged-requires-clause-within g c =
    let it = got_within c.args.mirror.now.array.members c.args.target c.requires.within in
    let h = c.in_ok-planned.ensures.gives it.0 it.1 in
    let then = pass_then c.args.target it.0 c.args.copied.now c.args.mirror.now it.1 c.requires.ready c.requires.none c.copy_whole.new.copied c.copy_whole.new.mirror c.in_ok-planned.planned h in
    filled_within c.args.target it.0 c.args.copied.now c.args.mirror.now it.1 c.requires.ready c.requires.none c.copy_whole.new.copied c.copy_whole.new.mirror c.in_ok-planned.planned h
    c.salvage_left.new.copied c.salvage_left.new.mirror c.in_ok-lost.lost (c.in_ok-lost.ensures.gives then.0 then.1) c.in_ok-lost.ensures.ready c.in_ok-lost.ensures.held

pub enrol_salvaged-requires-clause-low : goal.enrol_salvaged-requires-clause-low
enrol_salvaged-requires-clause-low g c =
    let it = got_within c.args.mirror.now.array.members c.args.target c.requires.within in
    let h = c.in_ok-planned.ensures.gives it.0 it.1 in
    let then = pass_then c.args.target it.0 c.args.copied.now c.args.mirror.now it.1 c.requires.ready c.requires.none c.copy_whole.new.copied c.copy_whole.new.mirror c.in_ok-planned.planned h in
    lost_low c.args.target then.0 c.copy_whole.new.copied c.salvage_left.new.copied c.in_ok-lost.lost c.copy_whole.new.mirror c.salvage_left.new.mirror (c.in_ok-lost.ensures.gives then.0 then.1)

pub returns-in_err-listed-clause-gives : goal.returns-in_err-listed-clause-gives
returns-in_err-listed-clause-gives g c m at =
    let p = err_from_is_err_and c.from_residual-in_err-listed.result c.from_residual-in_err-listed.ensures.1 in
    let h = c.in_ok-planned.ensures.gives m at in
    let then = pass_then c.args.target m c.args.copied.now c.args.mirror.now at c.requires.ready c.requires.none c.copy_whole.new.copied c.copy_whole.new.mirror c.in_ok-planned.planned h in
    rw (p.1, p.2) (enrol_ends c.args.target m c.args.copied.now c.args.mirror.now at c.requires.ready c.requires.none c.copy_whole.new.copied c.copy_whole.new.mirror c.in_ok-planned.planned h
    c.salvage_left.new.copied c.salvage_left.new.mirror c.in_ok-lost.lost (c.in_ok-lost.ensures.gives then.0 then.1) c.in_ok-lost.ensures.ready c.in_ok-lost.ensures.held
    c.enrol_salvaged.new.copied c.enrol_salvaged.new.mirror c.in_err-listed.field-0.0 c.in_err-listed.ensures.gives)

pub returns-clause-gives : goal.returns-clause-gives
returns-clause-gives g c m at =
    let h = c.in_ok-planned.ensures.gives m at in
    let then = pass_then c.args.target m c.args.copied.now c.args.mirror.now at c.requires.ready c.requires.none c.copy_whole.new.copied c.copy_whole.new.mirror c.in_ok-planned.planned h in
    salvages_readied c.args.target m c.args.copied.now c.args.mirror.now at c.requires.ready c.requires.none c.copy_whole.new.copied c.copy_whole.new.mirror c.in_ok-planned.planned h
    c.salvage_left.new.copied c.salvage_left.new.mirror c.in_ok-lost.lost (c.in_ok-lost.ensures.gives then.0 then.1) c.in_ok-lost.ensures.ready c.in_ok-lost.ensures.held
    c.enrol_salvaged.new.mirror c.store_until_done.new.mirror (record { planned = c.in_ok-planned.planned; lost = c.in_ok-lost.lost; listed = c.in_ok-listed.listed }) refl refl
    c.in_ok-listed.ensures.gives c.enrol_salvaged.ensures.sound c.store_until_done.ensures.stores_until_done
