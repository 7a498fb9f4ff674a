use Rattle.std.proofs.Common.{◌∙◌, arith, length, ap, refl}
use Rattle.std.proofs.lemmas.Result.{err_from_is_err_and}
use Rattle.md_state.specs.View.{ArrayView}
use Rattle.md_resync.specs.Copying.{IsAmong}
use Rattle.md_resync.proofs.CopiedChunks.{below_all, below_more, below_none, giving_fails, run_later}
use Rattle.md_resync.proofs.members.copy_to_members.Goals as goal

pub loop-k-init : goal.loop-k-init
loop-k-init g c = record { below = below_none c.args.sector c.args.bytes.now c.args.mirror.now c.requires.sound; held_long = refl }

pub copy_to-requires-clause-within : goal.copy_to-requires-clause-within
copy_to-requires-clause-within g c =
    let many = ap (λ (a : ArrayView). length a.members) c.loop-k.invariant.below.copies.array in
    let count = c.members-k-end.ensures in
    omega arith

pub copy_to-requires-clause-room : goal.copy_to-requires-clause-room
copy_to-requires-clause-room g c = let long = c.loop-k.invariant.held_long in let room = c.requires.room in omega arith

pub copy_to-requires-clause-sound : goal.copy_to-requires-clause-sound
copy_to-requires-clause-sound g c = c.loop-k.invariant.below.copies.goes.sound

pub copy_to-requires-clause-run : goal.copy_to-requires-clause-run
copy_to-requires-clause-run g c =
    let so_far = c.loop-k.invariant.below in
    run_later c.args.from c.args.sector c.args.bytes.now c.args.mirror.now c.loop-k.mirror c.requires.run so_far.copies.array (so_far.kept c.args.from c.requires.run.holds)

pub returns-in_err-copy_to : goal.returns-in_err-copy_to
returns-in_err-copy_to g c =
    let p = err_from_is_err_and c.from_residual.result c.from_residual.ensures.1 in
    rw (p.1, p.2) (giving_fails (IsAmong c.args.sector c.args.bytes.now) c.args.mirror.now c.loop-k.mirror c.copy_to.new.mirror c.in_err-copy_to.field-0.0 c.loop-k.invariant.below.copies c.in_err-copy_to.ensures)

pub loop-k-preserved : goal.loop-k-preserved
loop-k-preserved g c = record {
  below = below_more c.loop-k.k c.args.sector c.args.bytes.now c.args.mirror.now c.loop-k.mirror c.copy_to.new.mirror c.loop-k.invariant.below c.in_ok-copy_to.ensures.gives;
  held_long = c.copy_to.auto.held ∙ c.loop-k.invariant.held_long;
}

pub returns : goal.returns
returns g c =
    let past = c.loop-k-test.false in
    let count = c.members-k-end.ensures in
    below_all c.loop-k.k c.args.sector c.args.bytes.now c.args.mirror.now c.loop-k.mirror (omega arith) c.loop-k.invariant.below
