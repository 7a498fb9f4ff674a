use Rattle.md_report.specs.AsText.Rebuilds.SalvagedReport.{salvaged_line}
use Rattle.md_streams.proofs.Puts.{puts_then}
use Rattle.md_report.proofs.as_text.rebuilds.salvaged_lines.salvaged_line_report.Goals as goal

pub returns : goal.returns
unfolding salvaged_line
returns g c =
    let lost = c.in_ok-number_after-2.ensures in
    let lost = rw (c.count_sectors.ensures) at lost in
    let first = c.in_ok-put_first.ensures in
    let first = rw (c.runs.ensures.runs) at first in
    let more = c.in_ok-number_after-3.ensures in
    let more = rw (c.besides.ensures) at more in
    let two = puts_then g.S.Sink.contents g.S.Sink.failed c.in_ok-number_after.ensures lost in
    let three = puts_then g.S.Sink.contents g.S.Sink.failed two first in
    let four = puts_then g.S.Sink.contents g.S.Sink.failed three more in
    puts_then g.S.Sink.contents g.S.Sink.failed four c.in_ok-put.ensures
