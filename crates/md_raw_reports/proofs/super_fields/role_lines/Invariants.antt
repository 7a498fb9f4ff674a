use Rattle.std.specs.List.{flat_map, range_with_len}
use Rattle.md_streams.specs.Sink.{Puts}
use Rattle.md_raw_reports.specs.SuperFields.{role_line_text}
use Rattle.md_raw_reports.proofs.super_fields.role_lines.Given as goal

abbrev pub invariant-loop-number : goal.invariant-loop-number
invariant-loop-number g l = Puts g.S.Sink.contents g.S.Sink.failed l.fn.out l.out (flat_map (role_line_text l.bytes) (range_with_len 0 l.number))
