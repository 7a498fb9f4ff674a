use Rattle.md_examine.specs.BadblocksReport.{run_text}
use Rattle.md_streams.proofs.Puts.{puts_then}
use Rattle.md_examine.proofs.badblocks_report.run_line.Goals as goal

pub returns : goal.returns
unfolding run_text
returns g c = puts_then g.S.Sink.contents g.S.Sink.failed c.in_ok-right_aligned_number.ensures c.in_ok-size.ensures
