use Rattle.md_report.specs.AsText.CheckReport.{check_text}
use Rattle.md_streams.proofs.Puts.{puts_then}
use Rattle.md_report.proofs.as_text.check_line.check_report.Goals as goal

pub returns : goal.returns
unfolding check_text
returns g c = puts_then g.S.Sink.contents g.S.Sink.failed c.in_ok-number_after.ensures c.in_ok-put.ensures
