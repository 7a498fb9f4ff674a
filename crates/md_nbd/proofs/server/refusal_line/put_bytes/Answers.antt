use Rattle.md_nbd.specs.Server.Refusals.{bytes_text}
use Rattle.md_streams.proofs.Puts.{puts_then}
use Rattle.md_nbd.proofs.server.refusal_line.put_bytes.Goals as goal

pub returns : goal.returns
unfolding bytes_text
returns g c = puts_then g.S.Sink.contents g.S.Sink.failed c.in_ok-number_after.ensures c.in_ok-number_after-2.ensures
