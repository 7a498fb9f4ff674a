use Rattle.std.proofs.Common.{◌++◌, map}
use Rattle.md_raw_reports.specs.RawJson.RawSuper.{fault_fields, sum_fields, super_rows}
use Rattle.md_raw_reports.specs.RawJson.RawFields.{row_field}
use Rattle.md_report.proofs.JsonLemmas.Chosen.{puts_joined}
use Rattle.md_raw_reports.proofs.raw_json.raw_super_object.seen_part.Goals as goal

pub returns : goal.returns
returns g c = puts_joined g.S.Sink.contents g.S.Sink.failed (fault_fields c.args.read c.args.bytes.now) (map (row_field c.args.bytes.now) super_rows ++ sum_fields c.args.read c.args.bytes.now) c.in_ok-faults.ensures
    (puts_joined g.S.Sink.contents g.S.Sink.failed (map (row_field c.args.bytes.now) super_rows) (sum_fields c.args.read c.args.bytes.now) c.in_ok-next_fields.ensures c.in_ok-sums.ensures)
