use Rattle.md_report.specs.AsText.WholeArray.DetailReport.{detail_text}
use Rattle.md_streams.proofs.Puts.{puts_then}
use Rattle.md_report.proofs.as_text.whole_array.detail_report.detail.Goals as goal

pub returns : goal.returns
unfolding detail_text
returns g c =
    let all = puts_then g.S.Sink.contents g.S.Sink.failed (puts_then g.S.Sink.contents g.S.Sink.failed c.in_ok-shared_lines.ensures c.in_ok-condition.ensures) c.in_ok-member_lines.ensures in
    rw (c.shared.ensures) at all
