use Rattle.md_report.specs.AsText.WholeArray.VerboseReport.{verbose_text}
use Rattle.md_streams.proofs.Puts.{puts_then}
use Rattle.md_report.proofs.as_text.whole_array.verbose_report.verbose_detail.Goals as goal

pub returns : goal.returns
unfolding verbose_text
returns g c =
    let all = puts_then g.S.Sink.contents g.S.Sink.failed (puts_then g.S.Sink.contents g.S.Sink.failed (puts_then g.S.Sink.contents g.S.Sink.failed (puts_then g.S.Sink.contents g.S.Sink.failed c.in_ok-shared_lines.ensures c.in_ok-condition.ensures) c.in_ok-recovery_lines.ensures) c.in_ok-put.ensures) c.in_ok-named_lines.ensures in
    rw (c.shared.ensures) at all
