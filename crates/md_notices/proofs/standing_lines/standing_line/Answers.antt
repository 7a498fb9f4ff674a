use Rattle.md_notices.specs.Lines.{identity_text}
use Rattle.md_streams.proofs.Puts.{puts_then}
use Rattle.md_notices.proofs.standing_lines.standing_line.Goals as goal

pub returns : goal.returns
unfolding identity_text
returns g c =
    let named = puts_then g.S.Sink.contents g.S.Sink.failed (puts_then g.S.Sink.contents g.S.Sink.failed c.in_ok-put.ensures c.in_ok-put_name.ensures) c.in_ok-number_after.ensures in
    let all = puts_then g.S.Sink.contents g.S.Sink.failed (puts_then g.S.Sink.contents g.S.Sink.failed (puts_then g.S.Sink.contents g.S.Sink.failed (puts_then g.S.Sink.contents g.S.Sink.failed named c.in_ok-role.ensures) c.in_ok-put-2.ensures) c.in_ok-set.ensures) c.in_ok-there.ensures in
    rw (c.standing-state.ensures) at all
