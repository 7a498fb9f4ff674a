use Rattle.md_messages.specs.Telling.{refused_text}
use Rattle.md_streams.proofs.Puts.{puts_then}
use Rattle.md_messages.proofs.telling.put_refused.Goals as goal

pub returns : goal.returns
unfolding refused_text
returns g c =
    let failed = puts_then g.S.Sink.contents g.S.Sink.failed c.in_ok-put_noticed.ensures c.in_ok-put_all_failed.ensures in
    let listed = puts_then g.S.Sink.contents g.S.Sink.failed failed c.in_ok-put_perhaps_listed.ensures in
    let all = puts_then g.S.Sink.contents g.S.Sink.failed listed c.in_ok-put_lost_if.ensures in
    rw (c.has_joined.ensures) at all
