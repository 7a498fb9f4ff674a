use Rattle.std.proofs.Common.{◌∙◌, ap, arith}
use Rattle.md_state.specs.View.{ArrayView}
use Rattle.md_metadata.proofs.Lowered.{lowered_all, lowered_more, lowered_none}
use Rattle.md_metadata.proofs.offsets.lower_offsets.Goals as goal

pub loop-k-init : goal.loop-k-init
loop-k-init g c = lowered_none c.args.sector c.args.mirror.now c.requires.sound

pub lower_member-requires-clause-within : goal.lower_member-requires-clause-within
lower_member-requires-clause-within g c =
    let many = c.loop-k.invariant.goes.array.as_many in
    let count = c.members-k-end.ensures in
    omega arith

pub lower_member-requires-clause-sound : goal.lower_member-requires-clause-sound
lower_member-requires-clause-sound g c = c.loop-k.invariant.goes.sound

pub lower_member-requires-clause-running : goal.lower_member-requires-clause-running
lower_member-requires-clause-running g c = ap (λ (a : ArrayView). a.halted) c.loop-k.invariant.array ∙ c.requires.running

pub loop-k-preserved : goal.loop-k-preserved
loop-k-preserved g c =
    let count = c.members-k-end.ensures in
    lowered_more c.loop-k.k c.args.sector c.args.mirror.now c.loop-k.mirror c.lower_member.new.mirror (omega arith) c.loop-k.invariant c.lower_member.ensures

pub returns : goal.returns
returns g c =
    let past = c.loop-k-test.false in
    let count = c.members-k-end.ensures in
    lowered_all c.loop-k.k c.args.sector c.args.mirror.now c.loop-k.mirror (omega arith) c.loop-k.invariant
