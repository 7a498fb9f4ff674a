use Rattle.std.proofs.Common.{◌≡◌, ◌-◌, ◌/◌, ◌%◌, ◌≤◌, length, true}
use Rattle.md_check.specs.Readings.{HasUnlisted}
use Rattle.md_check.specs.Readers.{IsUsed}
use Rattle.md_check.specs.Told.{IsToldOfSectors}
use Rattle.md_check.proofs.work.compare_reads.Given as goal

abbrev pub decreases-loop-done : goal.decreases-loop-done
decreases-loop-done g l = length l.lead - l.done

abbrev pub invariant-loop-done : goal.invariant-loop-done
invariant-loop-done g l = record {
  whole : l.done % 512 ≡ 0;
  few : l.done ≤ length l.lead;
  used : IsUsed g.D.Device l.fn.reader l.reader;
  unfailing : g.D.Device.failures l.reader.device ≡ g.D.Device.failures l.fn.reader.device;
  gave : g.D.Device.honest l.fn.reader.device ≡ true
      → HasUnlisted (g.D.Device.content l.fn.reader.device) l.fn.reader.offset l.fn.reader.listed l.from (l.done / 512) l.lead;
  told : IsToldOfSectors g.G.Gate l.gate l.role l.chunks l.fn.reader.listed l.from (l.done / 512);
}
