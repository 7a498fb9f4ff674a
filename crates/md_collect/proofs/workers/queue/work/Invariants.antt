use Rattle.std.proofs.Common.{◌≡◌, length}
use Rattle.md_device.specs.Failing.{EachNewFault}
use Rattle.md_collect.specs.Workers.Gates.{IsToldOfReads}
use Rattle.md_collect.specs.Workers.Queues.{HasRead, IsOfWaiting}
use Rattle.md_collect.proofs.workers.queue.work.Given as goal

abbrev pub invariant-loop-slot : goal.invariant-loop-slot
invariant-loop-slot g l = record {
  read : HasRead g.D.Device l.chunks 0 l.initial.queue l.queue;
  done : l.queue.done ≡ l.initial.queue.done;
  count : length l.queue.reports.waiting ≡ l._slot;
  only : EachNewFault (g.D.Device.faults l.initial.queue.device) (g.D.Device.faults l.queue.device) (IsOfWaiting l.chunks l.queue);
  told : IsToldOfReads g.G.Gate l.gate l.initial.queue l.queue;
}
