use Rattle.md_notices.specs.Lines.{chunks_lost_text}
use Rattle.md_streams.proofs.Puts.{puts_then}
use Rattle.md_notices.proofs.lines.chunks_lost_line.Goals as goal

pub returns : goal.returns
unfolding chunks_lost_text
returns g c = puts_then g.S.Sink.contents g.S.Sink.failed c.in_ok-put.ensures c.in_ok-put-2.ensures
