use Rattle.md_report.specs.AsJson.Objects.{later_text}
use Rattle.md_raw_reports.specs.RawJson.RawBitmap.{header_fields}
use Rattle.md_streams.proofs.Puts.{puts_then}
use Rattle.md_report.proofs.JsonLemmas.Texts.{puts_last}
use Rattle.md_raw_reports.proofs.raw_json.raw_bitmap_object.header.Goals as goal

pub returns : goal.returns
unfolding later_text header_fields
returns g c = puts_then g.S.Sink.contents g.S.Sink.failed c.in_ok-next_lost.ensures (puts_last g.S.Sink.contents g.S.Sink.failed c.in_ok-faults.ensures)
