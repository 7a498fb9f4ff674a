use Rattle.std.proofs.Common.{◌≡◌, ◌≤◌}
use Rattle.md_device.specs.Failing.{OnlyReadsFailed}
use Rattle.md_raw_reports.specs.RawMembers.Raw.{AreCounted, chunks_in}
use Rattle.md_raw_reports.proofs.raw_members.counting.count_chunks.Given as goal

abbrev pub invariant-loop-k : goal.invariant-loop-k
invariant-loop-k g l = record {
  kept : g.D.Device.content l.device ≡ g.D.Device.content l.fn.device;
  honest : g.D.Device.honest l.device ≡ g.D.Device.honest l.fn.device;
  calls : g.D.Device.failures l.fn.device ≤ g.D.Device.failures l.device;
  grown : OnlyReadsFailed (g.D.Device.faults l.fn.device) (g.D.Device.faults l.device);
  done_is : l.done ≡ chunks_in l.k l.chunks;
  counted : AreCounted (g.D.Device.content l.fn.device) (g.D.Device.honest l.fn.device) l.start l.sector l.chunks l.k l.marked;
}
