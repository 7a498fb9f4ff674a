use Rattle.std.proofs.Common.{◌≡◌, Err, rules}
use Rattle.md_metadata.specs.Storing.{IsMarking}
use Rattle.md_metadata.proofs.Going.{in_sync_before, stops_on}
use Rattle.md_metadata.proofs.StoredSectors.{up_more, up_none}
use Rattle.md_metadata.proofs.all_marks.store_member_marks.Goals as goal

pub loop-block-init : goal.loop-block-init
loop-block-init g c = up_none c.args.k c.args.mirror.now c.requires.sound

pub returns-in_err-store_unlike-clause-gives : goal.returns-in_err-store_unlike-clause-gives
returns-in_err-store_unlike-clause-gives g c =
    let is : c.from_residual.result ≡ Err c.in_err-store_unlike.field-0.0 = search rules in
    rw is (stops_on IsMarking c.args.mirror.now c.loop-block.mirror c.store_unlike.new.mirror c.in_err-store_unlike.field-0.0 c.loop-block.invariant.stores c.in_err-store_unlike.ensures.gives)

pub returns-in_err-store_unlike-clause-in_sync : goal.returns-in_err-store_unlike-clause-in_sync
returns-in_err-store_unlike-clause-in_sync g c =
    let is : c.from_residual.result ≡ Err c.in_err-store_unlike.field-0.0 = search rules in
    rw is (in_sync_before c.args.mirror.now.array c.loop-block.mirror.array c.in_err-store_unlike.field-0.0 c.loop-block.invariant.stores.ready c.in_err-store_unlike.ensures.in_sync)

pub loop-block-preserved : goal.loop-block-preserved
loop-block-preserved g c =
    up_more c.args.k c.loop-block.block c.args.mirror.now c.loop-block.mirror c.store_unlike.new.mirror c.loop-block.invariant c.in_ok-store_unlike.ensures.gives
