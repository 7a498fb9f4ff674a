use Rattle.md_messages.specs.Telling.{told_text}
use Rattle.md_streams.proofs.Puts.{puts_then}
use Rattle.md_messages.proofs.telling.put_told.Goals as goal

pub returns : goal.returns
unfolding told_text
returns g c =
    let dropped = puts_then g.S.Sink.contents g.S.Sink.failed c.in_ok-put_noticed.ensures c.in_ok-put_all_dropped.ensures in
    let listed = puts_then g.S.Sink.contents g.S.Sink.failed dropped c.in_ok-put_all_listed.ensures in
    let lost = puts_then g.S.Sink.contents g.S.Sink.failed listed c.in_ok-put_loss.ensures in
    let compared = puts_then g.S.Sink.contents g.S.Sink.failed lost c.in_ok-put_uncompared.ensures in
    let unread = puts_then g.S.Sink.contents g.S.Sink.failed compared c.in_ok-put_unreadable.ensures in
    puts_then g.S.Sink.contents g.S.Sink.failed (puts_then g.S.Sink.contents g.S.Sink.failed unread c.in_ok-put_lost.ensures) c.in_ok-put_unready.ensures
