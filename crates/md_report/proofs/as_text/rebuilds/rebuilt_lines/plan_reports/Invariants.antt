use Rattle.std.proofs.Common.{take}
use Rattle.std.specs.List.{flat_map}
use Rattle.md_streams.specs.Sink.{Puts}
use Rattle.md_report.specs.AsText.Rebuilds.RebuiltReport.{planned_text}
use Rattle.md_report.proofs.as_text.rebuilds.rebuilt_lines.plan_reports.Given as goal

abbrev pub invariant-loop-planned : goal.invariant-loop-planned
invariant-loop-planned g l = Puts g.S.Sink.contents g.S.Sink.failed l.fn.out l.out (flat_map planned_text (take l.planned-index l.plans))
