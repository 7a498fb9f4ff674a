use Rattle.std.proofs.Common.{take}
use Rattle.std.specs.List.{flat_map}
use Rattle.md_streams.specs.Sink.{Puts}
use Rattle.md_messages.specs.Missing.{gap_text}
use Rattle.md_messages.proofs.missing.run_lines.Given as goal

abbrev pub invariant-loop-run : goal.invariant-loop-run
invariant-loop-run g l = Puts g.S.Sink.contents g.S.Sink.failed l.fn.out l.out (flat_map (gap_text l.stands) (take l.run-index l.runs))
