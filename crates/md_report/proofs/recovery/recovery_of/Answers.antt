use Rattle.md_report.proofs.Recoveries.{so_far}
use Rattle.md_report.proofs.recovery.recovery_of.Goals as goal

pub returns : goal.returns
returns g c m at =
    let chunks = c.chunks-chunks.ensures in
    let chunks = rw (c.marks.ensures) at chunks in
    so_far c.args.mirror.now.array c.args.k m c.offset_said-offset.result c.chunks-chunks.result c.lacked_to.result c.marked_to.result (c.offset_said-offset.ensures m at) chunks (c.lacked_to.ensures m at) c.marked_to.ensures
