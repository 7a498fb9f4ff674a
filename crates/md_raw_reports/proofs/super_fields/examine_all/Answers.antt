use Rattle.md_raw_reports.specs.SuperFields.{all_text}
use Rattle.md_streams.proofs.Puts.{puts_then}
use Rattle.md_raw_reports.proofs.super_fields.examine_all.Goals as goal

pub returns : goal.returns
unfolding all_text
returns g c =
    puts_then g.S.Sink.contents g.S.Sink.failed (puts_then g.S.Sink.contents g.S.Sink.failed (puts_then g.S.Sink.contents g.S.Sink.failed c.in_ok-unread_line.ensures c.in_ok-super_fault_lines.ensures) c.in_ok-shown_part.ensures) c.in_ok-found_lines.ensures
