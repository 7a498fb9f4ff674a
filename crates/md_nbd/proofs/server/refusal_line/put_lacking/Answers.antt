use Rattle.md_nbd.specs.Server.Refusals.{lacking_text}
use Rattle.md_streams.proofs.Puts.{puts_then}
use Rattle.md_nbd.proofs.server.refusal_line.put_lacking.Goals as goal

pub returns : goal.returns
unfolding lacking_text
returns g c = puts_then g.S.Sink.contents g.S.Sink.failed c.in_ok-number_after.ensures c.in_ok-put.ensures
