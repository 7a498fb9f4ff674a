use Rattle.md_streams.proofs.Puts.{puts_then}
use Rattle.md_report.specs.Recovery.{recovery_line}
use Rattle.md_report.proofs.recovery.line.Goals as goal

pub returns : goal.returns
unfolding recovery_line
returns g c =
    puts_then g.S.Sink.contents g.S.Sink.failed (puts_then g.S.Sink.contents g.S.Sink.failed (puts_then g.S.Sink.contents g.S.Sink.failed (puts_then g.S.Sink.contents g.S.Sink.failed c.in_ok-number_after.ensures c.in_ok-share.ensures) c.in_ok-number_after-2.ensures) c.in_ok-number_after-3.ensures) c.in_ok-put.ensures
