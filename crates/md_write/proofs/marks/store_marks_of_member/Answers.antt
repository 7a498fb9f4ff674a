use Rattle.std.proofs.Common.{ℕ, ◌∙◌, subst, sym, arith}
use Rattle.std.proofs.lemmas.Result.{err_from_is_err_and}
use Rattle.md_write.specs.Progress.{IsMarkingOf}
use Rattle.md_metadata.proofs.Going.{stops_on}
use Rattle.md_write.proofs.StoredMarks.{StoresUpTo, marked_still, up_all, up_more, up_none}
use Rattle.md_write.proofs.marks.store_marks_of_member.Goals as goal

pub loop-block-init : goal.loop-block-init
loop-block-init g c =
    subst (λ (b : ℕ). StoresUpTo c.args.k c.args.first c.args.end b c.args.mirror.now c.args.mirror.now) (sym c.block_of-block.ensures)
    (up_none c.args.k c.args.first c.args.end c.args.mirror.now c.requires.sound)

pub store_lacking-requires-clause-within : goal.store_lacking-requires-clause-within
store_lacking-requires-clause-within g c =
    let many = c.loop-block.invariant.stores.goes.array.as_many in
    let within = c.requires.within in
    omega arith

pub store_lacking-requires-clause-sound : goal.store_lacking-requires-clause-sound
store_lacking-requires-clause-sound g c = c.loop-block.invariant.stores.goes.sound

pub store_lacking-requires-clause-running : goal.store_lacking-requires-clause-running
store_lacking-requires-clause-running g c = c.loop-block.invariant.stores.ready.halted ∙ c.requires.running

pub store_lacking-requires-clause-marked : goal.store_lacking-requires-clause-marked
store_lacking-requires-clause-marked g c = marked_still c.args.mirror.now.array c.loop-block.mirror.array c.args.first c.args.end c.loop-block.invariant.stores.goes.array c.requires.marked

pub returns-in_err-store_lacking : goal.returns-in_err-store_lacking
returns-in_err-store_lacking g c =
    let p = err_from_is_err_and c.from_residual.result c.from_residual.ensures.1 in
    rw (p.1, p.2) (stops_on (IsMarkingOf c.args.first c.args.end) c.args.mirror.now c.loop-block.mirror c.store_lacking.new.mirror c.in_err-store_lacking.field-0.0 c.loop-block.invariant.stores c.in_err-store_lacking.ensures)

pub loop-block-preserved : goal.loop-block-preserved
loop-block-preserved g c =
    up_more c.args.k c.args.first c.args.end c.loop-block.block c.args.mirror.now c.loop-block.mirror c.store_lacking.new.mirror c.requires.marked c.loop-block.invariant c.in_ok-store_lacking.ensures

pub returns : goal.returns
returns g c = up_all c.args.k c.args.first c.args.end c.loop-block.block c.args.mirror.now c.loop-block.mirror (let past = c.loop-block-test.false in omega arith) c.loop-block.invariant
