use Rattle.md_streams.proofs.Puts.{puts_then}
use Rattle.md_streams.specs.GoingOn.{going_on_text}
use Rattle.md_streams.proofs.going_on.put_going_on.Goals as goal

pub returns : goal.returns
unfolding going_on_text
returns g c =
    puts_then g.S.Sink.contents g.S.Sink.failed (puts_then g.S.Sink.contents g.S.Sink.failed (puts_then g.S.Sink.contents g.S.Sink.failed (puts_then g.S.Sink.contents g.S.Sink.failed (puts_then g.S.Sink.contents g.S.Sink.failed c.in_ok-number_after.ensures c.in_ok-put.ensures) c.in_ok-put_from.ensures) c.in_ok-number_after-2.ensures) c.in_ok-number_after-3.ensures) c.in_ok-put-2.ensures
