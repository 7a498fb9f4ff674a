use Rattle.md_notices.specs.Lines.{parted_text}
use Rattle.md_streams.proofs.Puts.{puts_then}
use Rattle.md_notices.proofs.lines.parted_line.Goals as goal

pub returns : goal.returns
unfolding parted_text
returns g c =
    let named = puts_then g.S.Sink.contents g.S.Sink.failed c.in_ok-put.ensures c.in_ok-put_name.ensures in
    let both = puts_then g.S.Sink.contents g.S.Sink.failed (puts_then g.S.Sink.contents g.S.Sink.failed named c.in_ok-put-2.ensures) c.in_ok-put_name-2.ensures in
    puts_then g.S.Sink.contents g.S.Sink.failed both c.in_ok-put-3.ensures
