use Rattle.md_nbd.specs.Server.Refusals.{refused_request_text}
use Rattle.md_streams.proofs.Puts.{puts_then}
use Rattle.md_nbd.proofs.server.refusal_line.refused_line.Goals as goal

pub returns : goal.returns
unfolding refused_request_text
returns g c =
    puts_then g.S.Sink.contents g.S.Sink.failed (puts_then g.S.Sink.contents g.S.Sink.failed (puts_then g.S.Sink.contents g.S.Sink.failed c.in_ok-put.ensures c.in_ok-put_request.ensures) c.in_ok-put_reason.ensures) c.in_ok-put-2.ensures
