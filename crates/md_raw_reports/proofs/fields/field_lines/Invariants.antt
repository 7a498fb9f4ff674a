use Rattle.std.proofs.Common.{take}
use Rattle.std.specs.List.{flat_map}
use Rattle.md_streams.specs.Sink.{Puts}
use Rattle.md_raw_reports.specs.Fields.{field_text}
use Rattle.md_raw_reports.proofs.fields.field_lines.Given as goal

abbrev pub invariant-loop-field : goal.invariant-loop-field
invariant-loop-field g l = Puts g.S.Sink.contents g.S.Sink.failed l.fn.out l.out (flat_map (field_text l.bytes) (take l.field-index l.fields))
