use Rattle.md_resync.proofs.Told.{then_resyncs}
use Rattle.md_resync.proofs.whole.resync_idle.Goals as goal

pub returns-clause-gives : goal.returns-clause-gives
returns-clause-gives g c =
    then_resyncs c.args.mirror.now c.tell_recovering.new.mirror c.resync_told.new.mirror c.in_ok-tell_recovering.ensures.gives c.resync_told.result c.resync_told.ensures.gives
