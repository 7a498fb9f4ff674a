use Rattle.std.proofs.Common.{take}
use Rattle.md_streams.specs.Sink.{Puts}
use Rattle.md_report.specs.AsText.WholeArray.DetailReport.{member_lines}
use Rattle.md_report.proofs.as_text.whole_array.member_lines.member_lines.Given as goal

abbrev pub invariant-loop-k : goal.invariant-loop-k
invariant-loop-k g l = Puts g.S.Sink.contents g.S.Sink.failed l.fn.out l.out (member_lines l.mirror.array 0 (take l.k l.mirror.array.members))
