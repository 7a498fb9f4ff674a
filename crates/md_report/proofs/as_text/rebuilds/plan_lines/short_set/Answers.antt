use Rattle.md_report.specs.AsText.Rebuilds.PlanReport.{short_set_text}
use Rattle.md_streams.proofs.Puts.{puts_then}
use Rattle.md_report.proofs.as_text.rebuilds.plan_lines.short_set.Goals as goal

pub returns : goal.returns
unfolding short_set_text
returns g c =
    let all = puts_then g.S.Sink.contents g.S.Sink.failed (puts_then g.S.Sink.contents g.S.Sink.failed (puts_then g.S.Sink.contents g.S.Sink.failed c.in_ok-number_after.ensures c.in_ok-put.ensures) c.in_ok-chunk_list.ensures) c.in_ok-put-2.ensures in
    rw (c.as_slice.ensures) at all
