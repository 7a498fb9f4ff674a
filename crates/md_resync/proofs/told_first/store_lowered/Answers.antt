use Rattle.md_metadata.proofs.Going.{stores_nowhere}
use Rattle.md_metadata.specs.Storing.{IsRecording}
use Rattle.md_resync.proofs.Lowered.{stores_lowered}
use Rattle.md_resync.proofs.told_first.store_lowered.Goals as goal

pub returns-then-not-is_recovering_due : goal.returns-then-not-is_recovering_due
returns-then-not-is_recovering_due g c = record {
  stores = stores_nowhere IsRecording c.args.mirror.now c.requires.sound;
  done = c.is_recovering_due.ensures (let no = c.if-not-is_recovering_due.true in cc);
}

pub returns : goal.returns
returns g c = stores_lowered c.args.mirror.now c.store_records.new.mirror c.store_other_records.new.mirror c.in_ok-store_records.ensures.gives c.store_other_records.result c.store_other_records.ensures
