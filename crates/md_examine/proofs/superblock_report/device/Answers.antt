use Rattle.md_examine.specs.SuperblockReport.{device_lines}
use Rattle.md_streams.proofs.Puts.{puts_then}
use Rattle.md_examine.proofs.superblock_report.device.Goals as goal

pub returns : goal.returns
unfolding device_lines
returns g c =
    puts_then g.S.Sink.contents g.S.Sink.failed (puts_then g.S.Sink.contents g.S.Sink.failed (puts_then g.S.Sink.contents g.S.Sink.failed (puts_then g.S.Sink.contents g.S.Sink.failed (puts_then g.S.Sink.contents g.S.Sink.failed c.in_ok-recovery.ensures c.in_ok-decimal_line.ensures) c.in_ok-own_role.ensures) c.in_ok-uuid_line.ensures) c.in_ok-hex_line.ensures) c.in_ok-bitmap.ensures
