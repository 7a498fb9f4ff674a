use Rattle.md_examine.specs.SuperblockReport.{state_lines}
use Rattle.md_streams.proofs.Puts.{puts_then}
use Rattle.md_examine.proofs.superblock_report.state.Goals as goal

pub returns : goal.returns
unfolding state_lines
returns g c =
    puts_then g.S.Sink.contents g.S.Sink.failed (puts_then g.S.Sink.contents g.S.Sink.failed (puts_then g.S.Sink.contents g.S.Sink.failed (puts_then g.S.Sink.contents g.S.Sink.failed (puts_then g.S.Sink.contents g.S.Sink.failed c.in_ok-bad_block_log.ensures c.in_ok-decimal_line.ensures) c.in_ok-decimal_line-2.ensures) c.in_ok-cleanness_line.ensures) c.in_ok-hex8_line.ensures) c.in_ok-roles.ensures
