use Rattle.std.proofs.Common.{take}
use Rattle.std.specs.List.{flat_map}
use Rattle.md_streams.specs.Sink.{Puts}
use Rattle.md_report.specs.AsText.Rebuilds.PlanReport.{slot_text}
use Rattle.md_report.proofs.as_text.rebuilds.plan_lines.slot_lines.Given as goal

abbrev pub invariant-loop-slot : goal.invariant-loop-slot
invariant-loop-slot g l = Puts g.S.Sink.contents g.S.Sink.failed l.fn.out l.out (flat_map slot_text (take l.slot-index l.slots))
