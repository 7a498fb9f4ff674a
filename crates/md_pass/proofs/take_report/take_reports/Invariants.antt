use Rattle.std.proofs.Common.{◌≡◌}
use Rattle.md_pass.specs.Beside.{WritesBeside}
use Rattle.md_pass.specs.Joining.{HaveJoinedReports, none_joined, stage_of, total_waiting}
use Rattle.md_pass.proofs.take_report.take_reports.Given as goal

abbrev pub invariant-loop-k : goal.invariant-loop-k
invariant-loop-k g l = record {
  reports_taken : HaveJoinedReports g.D.Device g.row.L.Denot g.row.M.Denot (g.D.Device.honest l.initial.target) (stage_of l.initial.collector (g.D.Device.content l.initial.target) none_joined l.initial.copied)
      (stage_of l.collector (g.D.Device.content l.target) l.joined l.copied) l.initial.waiting.items l.waiting.items;
  writes : WritesBeside g.D.Device l.initial.collector l.collector l.initial.target l.target;
  none_failed : g.D.Device.faults l.target ≡ g.D.Device.faults l.initial.target;
}

abbrev pub decreases-loop-k : goal.decreases-loop-k
decreases-loop-k g l = total_waiting l.waiting.items
