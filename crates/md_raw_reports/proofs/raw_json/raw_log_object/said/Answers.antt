use Rattle.std.proofs.Common.{map}
use Rattle.md_raw_reports.specs.RawJson.RawLog.{log_rows, shift_fields}
use Rattle.md_raw_reports.specs.RawJson.RawFields.{row_field}
use Rattle.md_report.proofs.JsonLemmas.Chosen.{puts_joined}
use Rattle.md_raw_reports.proofs.raw_json.raw_log_object.said.Goals as goal

pub returns : goal.returns
returns g c = puts_joined g.S.Sink.contents g.S.Sink.failed (shift_fields c.args.superblock.now) (map (row_field c.args.superblock.now) log_rows) c.in_ok-faults.ensures c.in_ok-next_fields.ensures
