use Rattle.std.proofs.Common.{map, take}
use Rattle.md_streams.specs.Sink.{Puts}
use Rattle.md_report.specs.AsJson.Objects.{later_text}
use Rattle.md_raw_reports.specs.RawJson.RawFields.{table_field}
use Rattle.md_raw_reports.proofs.raw_json.raw_fields.next_fields.Given as goal

abbrev pub invariant-loop-field : goal.invariant-loop-field
invariant-loop-field g l = Puts g.S.Sink.contents g.S.Sink.failed l.fn.out l.out (later_text (map (table_field l.bytes) (take l.field-index l.fields)))
