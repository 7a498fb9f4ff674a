use Rattle.std.proofs.Common.{◌++◌, map}
use Rattle.md_raw_reports.specs.RawJson.RawBitmap.{bitmap_rows, header_fields, raw_mark_fields}
use Rattle.md_raw_reports.specs.RawJson.RawFields.{row_field}
use Rattle.md_report.proofs.JsonLemmas.Chosen.{puts_joined}
use Rattle.md_raw_reports.proofs.raw_json.raw_bitmap_object.read_part.Goals as goal

pub returns : goal.returns
returns g c = puts_joined g.S.Sink.contents g.S.Sink.failed (header_fields c.args.sector.now c.args.marks) (map (row_field c.args.sector.now) bitmap_rows ++ raw_mark_fields c.args.marks) c.in_ok-header.ensures
    (puts_joined g.S.Sink.contents g.S.Sink.failed (map (row_field c.args.sector.now) bitmap_rows) (raw_mark_fields c.args.marks) c.in_ok-next_fields.ensures c.in_ok-marks_part.ensures)
