use Rattle.md_state.specs.View.{disk_of}
use Rattle.md_metadata.proofs.ComingBack.{whole_or_left}
use Rattle.md_metadata.proofs.coming_back.with_extent.come_back.Goals as goal

pub returns-in-All-clause-as_was : goal.returns-in-All-clause-as_was
returns-in-All-clause-as_was g c =
    whole_or_left (disk_of g.D.Device) (disk_of g.D.Device c.args.device) c.args.mirror.now c.come_back_whole.new.mirror c.come_back_whole.result c.come_back_whole.ensures.gives
