use Rattle.md_report.specs.AsText.WholeArray.SummaryReport.{summary_text}
use Rattle.md_streams.proofs.Puts.{puts_then}
use Rattle.md_report.proofs.as_text.whole_array.summary_report.summary.Goals as goal

pub returns : goal.returns
unfolding summary_text
returns g c =
    let all = puts_then g.S.Sink.contents g.S.Sink.failed (puts_then g.S.Sink.contents g.S.Sink.failed (puts_then g.S.Sink.contents g.S.Sink.failed (puts_then g.S.Sink.contents g.S.Sink.failed c.in_ok-number_after.ensures c.in_ok-number_after-2.ensures) c.in_ok-number_after-3.ensures) c.in_ok-number_after-4.ensures) c.in_ok-put.ensures in
    rw (c.in_sync_count.ensures, c.shared.ensures, c.events.ensures, c.count.ensures, c.marks.ensures) at all
