use Rattle.md_report.specs.AsText.WholeArray.DetailReport.{shared_lines}
use Rattle.md_streams.proofs.Puts.{puts_then}
use Rattle.md_report.proofs.as_text.whole_array.detail_report.shared_lines.Goals as goal

pub returns : goal.returns
unfolding shared_lines
returns g c =
    puts_then g.S.Sink.contents g.S.Sink.failed (puts_then g.S.Sink.contents g.S.Sink.failed (puts_then g.S.Sink.contents g.S.Sink.failed c.in_ok-uuid_line.ensures c.in_ok-name_line.ensures) c.in_ok-decimal_line.ensures) c.in_ok-sectors_line.ensures
