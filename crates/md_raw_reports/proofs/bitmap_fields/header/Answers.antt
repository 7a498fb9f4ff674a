use Rattle.md_raw_reports.specs.BitmapFields.{header_text}
use Rattle.md_streams.proofs.Puts.{puts_then}
use Rattle.md_raw_reports.proofs.bitmap_fields.header.Goals as goal

pub returns : goal.returns
unfolding header_text
returns g c =
    puts_then g.S.Sink.contents g.S.Sink.failed c.in_ok-fault_lines.ensures c.in_ok-field_lines.ensures
