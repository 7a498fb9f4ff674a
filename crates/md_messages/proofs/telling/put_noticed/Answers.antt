use Rattle.md_messages.specs.Telling.{noticed_text}
use Rattle.md_streams.proofs.Puts.{puts_then}
use Rattle.md_messages.proofs.telling.put_noticed.Goals as goal

pub returns : goal.returns
unfolding noticed_text
returns g c =
    let first = puts_then g.S.Sink.contents g.S.Sink.failed c.in_ok-put_all_marked.ensures c.in_ok-put_first_unless.ensures in
    let all = puts_then g.S.Sink.contents g.S.Sink.failed (puts_then g.S.Sink.contents g.S.Sink.failed first c.in_ok-put_all_parted.ensures) c.in_ok-put_unnamed_unless.ensures in
    rw (c.asked_member.ensures) at all
