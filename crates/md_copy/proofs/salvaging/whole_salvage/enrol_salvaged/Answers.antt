use Rattle.std.proofs.Common.{◌∙◌, ◌<◌, sym, ap, subst}
use Rattle.std.specs.Int.{div_ceil}
use Rattle.std.proofs.lemmas.Result.{err_from_is_err_and}
use Rattle.md_assembly.proofs.Indices.{got_within}
use Rattle.md_bitmap.specs.declared.chunks.Chunks.{Chunks}
use Rattle.md_copy.specs.Salvaging.Widened.{IsNotListed}
use Rattle.md_copy.proofs.SalvageLemmas.ReadiedSalvage.{enrolled_runs, enrols_salvaged, kept_held, listed_filled, listed_lacked, memory_ends, memory_leaves, part_held, refused_ends}
use Rattle.md_copy.proofs.salvaging.whole_salvage.enrol_salvaged.Goals as goal

pub keep_missing-requires-clause-marks : goal.keep_missing-requires-clause-marks
keep_missing-requires-clause-marks g c = c.requires.held.chunks

pub returns-in_err-missing-clause-gives : goal.returns-in_err-missing-clause-gives
returns-in_err-missing-clause-gives g c =
    let p = err_from_is_err_and c.from_residual.result c.from_residual.ensures.1 in
    rw (p.1, p.2) (memory_ends c.args.target c.args.mirror.now c.requires.ready c.requires.within c.args.copied.now c.keep_missing.new.copied c.requires.held c.keep_missing.ensures.chunks c.keep_missing.ensures.bits c.args.lost.now)

pub returns-in_err-missing-clause-leaves : goal.returns-in_err-missing-clause-leaves
returns-in_err-missing-clause-leaves g c =
    let p = err_from_is_err_and c.from_residual.result c.from_residual.ensures.1 in
    rw (p.1, p.2) (memory_leaves c.args.target c.args.mirror.now c.requires.ready c.requires.within c.args.copied.now c.keep_missing.new.copied c.requires.held c.keep_missing.ensures.chunks c.keep_missing.ensures.bits)

pub sectors_to_list-requires-clause-missing : goal.sectors_to_list-requires-clause-missing
sectors_to_list-requires-clause-missing g c =
    (let it = got_within c.args.mirror.now.array.members c.args.target c.requires.within in (c.in_ok-missing.ensures it.0 it.1).chunks)

pub returns-in_err-listed-clause-gives : goal.returns-in_err-listed-clause-gives
returns-in_err-listed-clause-gives g c =
    let p = err_from_is_err_and c.from_residual-in_err-listed.result c.from_residual-in_err-listed.ensures.1 in
    rw (p.1, p.2) (memory_ends c.args.target c.args.mirror.now c.requires.ready c.requires.within c.args.copied.now c.keep_missing.new.copied c.requires.held c.keep_missing.ensures.chunks c.keep_missing.ensures.bits c.args.lost.now)

pub returns-in_err-listed-clause-leaves : goal.returns-in_err-listed-clause-leaves
returns-in_err-listed-clause-leaves g c =
    let p = err_from_is_err_and c.from_residual-in_err-listed.result c.from_residual-in_err-listed.ensures.1 in
    rw (p.1, p.2) (memory_leaves c.args.target c.args.mirror.now c.requires.ready c.requires.within c.args.copied.now c.keep_missing.new.copied c.requires.held c.keep_missing.ensures.chunks c.keep_missing.ensures.bits)

pub unmark_listed-requires : goal.unmark_listed-requires
unmark_listed-requires g c = c.keep_missing.ensures.chunks ∙ c.requires.held.chunks ∙ c.requires.ready.sound.chunks.count ∙ ap (λ (q : Chunks). div_ceil q.size q.sectors) (sym c.chunks.ensures)

pub enrol_without-requires-clause-lacked : goal.enrol_without-requires-clause-lacked
enrol_without-requires-clause-lacked g c m at s bad =
    listed_lacked c.args.target c.args.mirror.now c.requires.ready.sound m at c.in_ok-missing.missing (c.in_ok-missing.ensures m at) c.args.lost.now c.in_ok-listed.listed c.requires.low c.in_ok-listed.ensures s bad

pub enrol_without-requires-clause-missing : goal.enrol_without-requires-clause-missing
enrol_without-requires-clause-missing g c m at = c.in_ok-missing.ensures m at

pub enrol_without-requires-clause-filled : goal.enrol_without-requires-clause-filled
enrol_without-requires-clause-filled g c =
    let it = got_within c.args.mirror.now.array.members c.args.target c.requires.within in
    listed_filled c.args.target c.args.mirror.now c.requires.ready.sound it.0 it.1 c.in_ok-missing.missing (c.in_ok-missing.ensures it.0 it.1) c.args.lost.now c.in_ok-listed.listed c.requires.low c.in_ok-listed.ensures c.requires.filled

pub enrol_without-requires-clause-held : goal.enrol_without-requires-clause-held
enrol_without-requires-clause-held g c =
    part_held c.args.mirror.now c.args.target c.keep_missing.new.copied c.unmark_listed.new.set
    (kept_held c.args.target c.args.mirror.now c.requires.ready c.requires.within c.args.copied.now c.keep_missing.new.copied c.requires.held c.keep_missing.ensures.chunks c.keep_missing.ensures.bits)
    c.unmark_listed.ensures.chunks (λ b low set. c.unmark_listed.ensures.subset b set)

pub enrol_without-requires-clause-apart : goal.enrol_without-requires-clause-apart
enrol_without-requires-clause-apart g c b low set =
    subst (λ (q : Chunks). IsNotListed q c.in_ok-listed.listed b) c.chunks.ensures (c.unmark_listed.ensures.unlisted b (subst (λ n. b < n) c.unmark_listed.ensures.chunks low) set)

pub returns-in_err-enrol_without-clause-gives : goal.returns-in_err-enrol_without-clause-gives
returns-in_err-enrol_without-clause-gives g c =
    let p = err_from_is_err_and c.from_residual-in_err-enrol_without.result c.from_residual-in_err-enrol_without.ensures.1 in
    rw (p.1, p.2) (refused_ends c.args.target c.args.mirror.now c.requires.ready c.requires.within c.args.copied.now c.keep_missing.new.copied c.requires.held c.keep_missing.ensures.chunks c.keep_missing.ensures.bits
    c.in_ok-missing.missing c.args.lost.now c.in_ok-listed.listed c.in_ok-listed.ensures (λ m at. c.in_ok-missing.ensures m at) c.unmark_listed.new.set (λ b set. c.unmark_listed.ensures.subset b set)
    c.enrol_without.new.mirror c.in_err-enrol_without.field-0.0 c.in_err-enrol_without.ensures.gives)

pub returns-clause-gives : goal.returns-clause-gives
returns-clause-gives g c =
    enrols_salvaged c.args.target c.args.mirror.now c.requires.ready c.requires.within c.args.copied.now c.keep_missing.new.copied c.requires.held c.keep_missing.ensures.chunks c.keep_missing.ensures.bits
    c.in_ok-missing.missing c.args.lost.now c.in_ok-listed.listed c.in_ok-listed.ensures c.enrol_without.new.mirror c.in_ok-enrol_without.ensures.gives

pub returns-clause-running : goal.returns-clause-running
returns-clause-running g c =
    enrolled_runs c.args.target c.in_ok-missing.missing c.in_ok-listed.listed c.args.mirror.now c.enrol_without.new.mirror c.in_ok-enrol_without.ensures.gives
