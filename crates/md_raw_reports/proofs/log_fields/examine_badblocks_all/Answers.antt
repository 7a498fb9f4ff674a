use Rattle.md_raw_reports.specs.LogFields.{log_all_text}
use Rattle.md_streams.proofs.Puts.{puts_then}
use Rattle.md_raw_reports.proofs.log_fields.examine_badblocks_all.Goals as goal

pub returns : goal.returns
unfolding log_all_text
returns g c =
    puts_then g.S.Sink.contents g.S.Sink.failed (puts_then g.S.Sink.contents g.S.Sink.failed (puts_then g.S.Sink.contents g.S.Sink.failed (puts_then g.S.Sink.contents g.S.Sink.failed c.in_ok-unread_line.ensures c.in_ok-super_fault_lines.ensures) c.in_ok-superblock_part.ensures) c.in_ok-lost_line.ensures) c.in_ok-entry_lines.ensures
