use Rattle.std.proofs.Common.{take}
use Rattle.std.specs.List.{flat_map}
use Rattle.md_streams.specs.Sink.{Puts}
use Rattle.md_report.specs.Recovery.{recoveries, recovery_line}
use Rattle.md_report.proofs.recovery.recovery_lines.Given as goal

abbrev pub invariant-loop-k : goal.invariant-loop-k
invariant-loop-k g l = Puts g.S.Sink.contents g.S.Sink.failed l.fn.out l.out (flat_map recovery_line (recoveries l.mirror.array 0 (take l.k l.mirror.array.members)))
