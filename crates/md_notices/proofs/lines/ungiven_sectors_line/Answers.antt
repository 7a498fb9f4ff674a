use Rattle.md_streams.proofs.Puts.{puts_then}
use Rattle.md_notices.proofs.lines.ungiven_sectors_line.Goals as goal

pub returns : goal.returns
returns g c = puts_then g.S.Sink.contents g.S.Sink.failed c.in_ok-ungiven_count.ensures c.in_ok-first_ungiven.ensures
