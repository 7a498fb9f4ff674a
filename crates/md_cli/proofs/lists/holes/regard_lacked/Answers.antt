use Rattle.std.proofs.Common.{◌∙◌, ap, arith}
use Rattle.std.proofs.lemmas.Result.{err_from_is_err_and}
use Rattle.md_state.specs.View.{MirrorView}
use Rattle.md_cli.proofs.Lacked.{lacking_was, regards_all, regards_more, regards_none}
use Rattle.md_cli.proofs.lists.holes.regard_lacked.Goals as goal

pub loop-k-init : goal.loop-k-init
loop-k-init g c = record { sound = c.requires.sound; regards = regards_none c.args.how c.args.lacking.now c.args.mirror.now }

pub regard_one-requires-clause-within : goal.regard_one-requires-clause-within
regard_one-requires-clause-within g c =
    let many = c.loop-k.invariant.regards.as_many in
    let count = c.members-k-end.ensures in
    let below = c.loop-k-test.true in
    omega arith

pub regard_one-requires-clause-sound : goal.regard_one-requires-clause-sound
regard_one-requires-clause-sound g c = c.loop-k.invariant.sound

pub loop-k-preserved : goal.loop-k-preserved
loop-k-preserved g c = record {
  sound = c.regard_one.ensures.sound;
  regards = regards_more c.args.how c.args.lacking.now c.loop-k.k c.args.mirror.now c.loop-k.mirror c.loop-k.invariant.regards c.regard_one.new.mirror c.in_ok-regard_one.ensures.gives;
}

pub returns-in_err-regard_one-clause-gives : goal.returns-in_err-regard_one-clause-gives
returns-in_err-regard_one-clause-gives g c =
    let p = err_from_is_err_and c.from_residual.result c.from_residual.ensures.1 in
    let lacks = lacking_was c.args.how c.args.lacking.now c.loop-k.k c.args.mirror.now c.loop-k.mirror c.loop-k.invariant.regards c.loop-k.k c.in_err-regard_one.ensures.gives.1 in
    rw p.1 (c.loop-k.k, lacks)

pub returns-in_err-regard_one-clause-disks : goal.returns-in_err-regard_one-clause-disks
returns-in_err-regard_one-clause-disks g c = ap (λ (v : MirrorView). v.disks) c.in_err-regard_one.ensures.gives.0 ∙ c.loop-k.invariant.regards.disks

pub returns-in_err-regard_one-clause-sound : goal.returns-in_err-regard_one-clause-sound
returns-in_err-regard_one-clause-sound g c = c.regard_one.ensures.sound

pub returns-clause-gives : goal.returns-clause-gives
returns-clause-gives g c =
    let count = c.members-k-end.ensures in
    let past = c.loop-k-test.false in
    regards_all c.args.how c.args.lacking.now c.loop-k.k c.args.mirror.now c.loop-k.mirror (omega arith) c.loop-k.invariant.regards

pub returns-clause-disks : goal.returns-clause-disks
returns-clause-disks g c = c.loop-k.invariant.regards.disks

pub returns-clause-sound : goal.returns-clause-sound
returns-clause-sound g c = c.loop-k.invariant.sound
