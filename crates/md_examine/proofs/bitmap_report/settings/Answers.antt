use Rattle.md_examine.specs.BitmapReport.{setting_lines}
use Rattle.md_streams.proofs.Puts.{puts_then}
use Rattle.md_examine.proofs.bitmap_report.settings.Goals as goal

pub returns : goal.returns
unfolding setting_lines
returns g c =
    puts_then g.S.Sink.contents g.S.Sink.failed (puts_then g.S.Sink.contents g.S.Sink.failed (puts_then g.S.Sink.contents g.S.Sink.failed c.in_ok-hex_line.ensures c.in_ok-unit_line.ensures) c.in_ok-unit_line-2.ensures) c.in_ok-sectors_line.ensures
