use Rattle.std.specs.List.{flat_map, range_with_len}
use Rattle.md_streams.specs.Sink.{Puts}
use Rattle.md_report.specs.AsText.CheckReport.{chunk_text}
use Rattle.md_report.proofs.as_text.check_line.chunk_lines.Given as goal

abbrev pub invariant-loop-c : goal.invariant-loop-c
invariant-loop-c g l = Puts g.S.Sink.contents g.S.Sink.failed l.fn.out l.out (flat_map (chunk_text l.chunks l.found) (range_with_len 0 l.c))
