use Rattle.std.proofs.Common.{◌≡◌, ◌-◌, ◌≤◌, length, true}
use Rattle.md_collect.specs.Workers.Queues.{OnlyRead}
use Rattle.md_check.specs.Readings.{HasUnlisted}
use Rattle.md_check.specs.Told.{IsToldOfSectors}
use Rattle.md_check.proofs.work.read_part.Given as goal

abbrev pub decreases-loop-done : goal.decreases-loop-done
decreases-loop-done g l = l.part.sectors - l.done

abbrev pub invariant-loop-done : goal.invariant-loop-done
invariant-loop-done g l = record {
  long : length l.buf ≡ length l.fn.buf;
  few : l.done ≤ l.part.sectors;
  only_read : OnlyRead g.D.Device l.fn.device l.device;
  unfailing : g.D.Device.failures l.device ≡ g.D.Device.failures l.fn.device;
  gave : g.D.Device.honest l.fn.device ≡ true → HasUnlisted (g.D.Device.content l.fn.device) l.member.offset l.member.listed.now l.part.from l.done l.buf;
  told : IsToldOfSectors g.G.Gate l.gate l.member.role l.chunks l.member.listed.now l.part.from l.done;
}
