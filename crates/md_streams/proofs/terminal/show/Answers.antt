use Rattle.md_streams.proofs.Puts.{told_or_failed}
use Rattle.md_streams.proofs.terminal.show.Goals as goal

pub returns : goal.returns
returns g c = told_or_failed g.E.Sink c.put.result c.put.ensures
