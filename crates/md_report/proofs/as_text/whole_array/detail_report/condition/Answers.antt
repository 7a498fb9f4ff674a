use Rattle.md_report.specs.AsText.WholeArray.DetailReport.{condition_lines}
use Rattle.md_streams.proofs.Puts.{puts_then}
use Rattle.md_report.proofs.as_text.whole_array.detail_report.condition.Goals as goal

pub returns : goal.returns
unfolding condition_lines
returns g c =
    let all = puts_then g.S.Sink.contents g.S.Sink.failed (puts_then g.S.Sink.contents g.S.Sink.failed (puts_then g.S.Sink.contents g.S.Sink.failed c.in_ok-decimal_line.ensures c.in_ok-state.ensures) c.in_ok-decimal_line-2.ensures) c.in_ok-marked_line.ensures in
    rw (c.in_sync_count.ensures, c.events.ensures, c.marks.ensures) at all
