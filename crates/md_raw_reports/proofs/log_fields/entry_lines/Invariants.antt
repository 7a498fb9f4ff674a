use Rattle.std.specs.List.{flat_map, range_with_len}
use Rattle.md_streams.specs.Sink.{Puts}
use Rattle.md_raw_reports.specs.LogFields.{entry_text}
use Rattle.md_raw_reports.proofs.log_fields.entry_lines.Given as goal

abbrev pub invariant-loop-place : goal.invariant-loop-place
invariant-loop-place g l = Puts g.S.Sink.contents g.S.Sink.failed l.fn.out l.out (flat_map (entry_text l.area) (range_with_len 0 l.place))
