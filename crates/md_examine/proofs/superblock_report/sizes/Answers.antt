use Rattle.md_examine.specs.SuperblockReport.{size_lines}
use Rattle.md_streams.proofs.Puts.{puts_then}
use Rattle.md_examine.proofs.superblock_report.sizes.Goals as goal

pub returns : goal.returns
unfolding size_lines
returns g c =
    puts_then g.S.Sink.contents g.S.Sink.failed (puts_then g.S.Sink.contents g.S.Sink.failed (puts_then g.S.Sink.contents g.S.Sink.failed (puts_then g.S.Sink.contents g.S.Sink.failed (puts_then g.S.Sink.contents g.S.Sink.failed c.in_ok-line.ensures c.in_ok-decimal_line.ensures) c.in_ok-sectors_line.ensures) c.in_ok-sectors_line-2.ensures) c.in_ok-sectors_line-3.ensures) c.in_ok-sectors_line-4.ensures
