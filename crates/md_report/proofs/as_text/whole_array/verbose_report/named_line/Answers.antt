use Rattle.md_report.specs.AsText.WholeArray.VerboseReport.{named_text}
use Rattle.md_streams.proofs.Puts.{puts_then}
use Rattle.md_report.proofs.as_text.whole_array.verbose_report.named_line.Goals as goal

pub returns : goal.returns
unfolding named_text
returns g c =
    puts_then g.S.Sink.contents g.S.Sink.failed (puts_then g.S.Sink.contents g.S.Sink.failed (puts_then g.S.Sink.contents g.S.Sink.failed (puts_then g.S.Sink.contents g.S.Sink.failed (puts_then g.S.Sink.contents g.S.Sink.failed c.in_ok-number.ensures c.in_ok-number-2.ensures) c.in_ok-role.ensures) c.in_ok-standing.ensures) c.in_ok-flag.ensures) c.in_ok-image.ensures
