use Rattle.md_notices.specs.Lines.{ungiven_count_text}
use Rattle.md_streams.proofs.Puts.{puts_then}
use Rattle.md_notices.proofs.lines.ungiven_count.Goals as goal

pub returns : goal.returns
unfolding ungiven_count_text
returns g c = puts_then g.S.Sink.contents g.S.Sink.failed c.in_ok-put.ensures c.in_ok-number_after.ensures
