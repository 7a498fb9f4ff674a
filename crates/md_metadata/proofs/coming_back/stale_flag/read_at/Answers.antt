use Rattle.md_state.proofs.Stays.{stays_called}
use Rattle.md_metadata.proofs.coming_back.stale_flag.read_at.Goals as goal

pub returns-clause-only_read : goal.returns-clause-only_read
returns-clause-only_read g c =
    ((c.read.ensures.kept, c.read.ensures.within), stays_called g.D.Device c.args.device.now c.read.new.self c.read.result _ c.read.ensures.honest c.read.ensures.counted c.read.ensures.faults)
