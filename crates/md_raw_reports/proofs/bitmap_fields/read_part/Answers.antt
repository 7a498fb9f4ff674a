use Rattle.md_raw_reports.specs.BitmapFields.{read_text}
use Rattle.md_streams.proofs.Puts.{puts_then}
use Rattle.md_raw_reports.proofs.bitmap_fields.read_part.Goals as goal

pub returns : goal.returns
returns g c = puts_then g.S.Sink.contents g.S.Sink.failed c.in_ok-header.ensures c.in_ok-count_lines.ensures
