use Rattle.md_messages.specs.Missing.{runs_text}
use Rattle.md_streams.proofs.Puts.{puts_then}
use Rattle.md_messages.proofs.missing.put_runs.Goals as goal

pub returns : goal.returns
unfolding runs_text
returns g c = puts_then g.S.Sink.contents g.S.Sink.failed c.in_ok-run_lines.ensures c.in_ok-count_line.ensures
