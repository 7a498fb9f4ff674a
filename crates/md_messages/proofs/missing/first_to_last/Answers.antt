use Rattle.md_streams.proofs.Puts.{puts_then}
use Rattle.md_messages.proofs.missing.first_to_last.Goals as goal

pub returns : goal.returns
returns g c = puts_then g.S.Sink.contents g.S.Sink.failed c.in_ok-number_after.ensures c.in_ok-number_after-2.ensures
