use Rattle.md_notices.specs.UngivenLine.{some_ungiven_text}
use Rattle.md_streams.proofs.Puts.{puts_then}
use Rattle.md_notices.proofs.ungiven_chunks_line.some_ungiven_line.Goals as goal

pub returns : goal.returns
unfolding some_ungiven_text
returns g c =
    let size = puts_then g.S.Sink.contents g.S.Sink.failed c.in_ok-number_after.ensures c.in_ok-put.ensures in
    let count = puts_then g.S.Sink.contents g.S.Sink.failed size c.in_ok-number_after-2.ensures in
    let all = puts_then g.S.Sink.contents g.S.Sink.failed (puts_then g.S.Sink.contents g.S.Sink.failed count c.in_ok-number_after-3.ensures) c.in_ok-put-2.ensures in
    rw (c.in_units.ensures) at (rw (c.unit_of.ensures) at all)
