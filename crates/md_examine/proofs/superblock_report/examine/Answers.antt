use Rattle.md_examine.specs.SuperblockReport.{examine_text}
use Rattle.md_streams.proofs.Puts.{puts_then}
use Rattle.md_examine.proofs.superblock_report.examine.Goals as goal

pub returns : goal.returns
unfolding examine_text
returns g c =
    puts_then g.S.Sink.contents g.S.Sink.failed (puts_then g.S.Sink.contents g.S.Sink.failed (puts_then g.S.Sink.contents g.S.Sink.failed c.in_ok-array.ensures c.in_ok-sizes.ensures) c.in_ok-device.ensures) c.in_ok-state.ensures
