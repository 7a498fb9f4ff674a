use Rattle.std.proofs.Common.{◌∙◌, arith}
use Rattle.std.proofs.lemmas.Result.{err_from_is_err_and}
use Rattle.md_state.specs.Steps.WriteMember.{HasMarksFrom}
use Rattle.md_write.specs.Progress.{IsMarkingOf}
use Rattle.md_write.proofs.StoredMarks.{marked_still, marks_last}
use Rattle.md_write.proofs.marks.store_marks_of_chunks.Goals as goal
use Rattle.md_metadata.proofs.Going.{stops_on}
use Rattle.md_metadata.proofs.StoredMembers.{below_all, below_more, below_none}

pub loop-k-init : goal.loop-k-init
loop-k-init g c = below_none (IsMarkingOf c.args.first c.args.end) (HasMarksFrom c.args.first c.args.end) c.args.mirror.now c.requires.sound

pub store_marks_of_member-requires-clause-within : goal.store_marks_of_member-requires-clause-within
store_marks_of_member-requires-clause-within g c =
    let many = c.loop-k.invariant.stores.goes.array.as_many in
    let count = c.members-k-end.ensures in
    omega arith

pub store_marks_of_member-requires-clause-sound : goal.store_marks_of_member-requires-clause-sound
store_marks_of_member-requires-clause-sound g c = c.loop-k.invariant.stores.goes.sound

pub store_marks_of_member-requires-clause-running : goal.store_marks_of_member-requires-clause-running
store_marks_of_member-requires-clause-running g c = c.loop-k.invariant.stores.ready.halted ∙ c.requires.running

pub store_marks_of_member-requires-clause-marked : goal.store_marks_of_member-requires-clause-marked
store_marks_of_member-requires-clause-marked g c = marked_still c.args.mirror.now.array c.loop-k.mirror.array c.args.first c.args.end c.loop-k.invariant.stores.goes.array c.requires.marked

pub returns-in_err-store_marks_of_member : goal.returns-in_err-store_marks_of_member
returns-in_err-store_marks_of_member g c =
    let p = err_from_is_err_and c.from_residual.result c.from_residual.ensures.1 in
    rw (p.1, p.2) (stops_on (IsMarkingOf c.args.first c.args.end) c.args.mirror.now c.loop-k.mirror c.store_marks_of_member.new.mirror c.in_err-store_marks_of_member.field-0.0 c.loop-k.invariant.stores c.in_err-store_marks_of_member.ensures)

pub loop-k-preserved : goal.loop-k-preserved
loop-k-preserved g c =
    below_more (IsMarkingOf c.args.first c.args.end) (HasMarksFrom c.args.first c.args.end) c.loop-k.k c.args.mirror.now c.loop-k.mirror c.store_marks_of_member.new.mirror
    (marks_last c.args.mirror.now.array c.args.first c.args.end c.requires.marked) c.loop-k.invariant c.in_ok-store_marks_of_member.ensures

pub returns : goal.returns
returns g c =
    let past = c.loop-k-test.false in
    let count = c.members-k-end.ensures in
    let many = c.loop-k.invariant.stores.goes.array.as_many in
    below_all (IsMarkingOf c.args.first c.args.end) (HasMarksFrom c.args.first c.args.end) c.loop-k.k c.args.mirror.now c.loop-k.mirror (omega arith) c.loop-k.invariant
