use Rattle.md_examine.specs.SuperblockReport.{array_lines}
use Rattle.md_streams.proofs.Puts.{puts_then}
use Rattle.md_examine.proofs.superblock_report.array.Goals as goal

pub returns : goal.returns
unfolding array_lines
returns g c =
    puts_then g.S.Sink.contents g.S.Sink.failed (puts_then g.S.Sink.contents g.S.Sink.failed (puts_then g.S.Sink.contents g.S.Sink.failed (puts_then g.S.Sink.contents g.S.Sink.failed (puts_then g.S.Sink.contents g.S.Sink.failed c.in_ok-line.ensures c.in_ok-line-2.ensures) c.in_ok-hex_line.ensures) c.in_ok-uuid_line.ensures) c.in_ok-name_line.ensures) c.in_ok-decimal_line.ensures
