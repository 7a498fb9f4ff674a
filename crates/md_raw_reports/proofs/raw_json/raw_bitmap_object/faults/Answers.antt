use Rattle.std.proofs.Common.{codes}
use Rattle.std.specs.List.{filter}
use Rattle.md_raw_reports.specs.RawJson.RawBitmap.{header_fault_value}
use Rattle.md_raw_reports.specs.BitmapFields.{faults, bitmap_fault_stands}
use Rattle.md_report.proofs.JsonLemmas.Texts.{puts_list}
use Rattle.md_raw_reports.proofs.raw_json.raw_bitmap_object.faults.Goals as goal

pub returns : goal.returns
returns g c = puts_list g.S.Sink.contents g.S.Sink.failed header_fault_value (codes "faults") (filter (bitmap_fault_stands c.args.sector.now) faults) c.in_ok-next_key.ensures c.in_ok-put.ensures c.in_ok-fault_elements.ensures c.in_ok-put-2.ensures
