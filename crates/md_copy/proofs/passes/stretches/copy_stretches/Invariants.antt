use Rattle.std.proofs.Common.{◌<◌, ◌≤◌, ◌-◌, ◌^◌}
use Rattle.md_copy.specs.Passes.Stretches.{slots_before}
use Rattle.md_copy.specs.Told.{IsToldOfSlots}
use Rattle.md_copy.proofs.Passing.StretchesGo.{GoesThrough}
use Rattle.md_copy.proofs.passes.stretches.copy_stretches.Given as goal

abbrev pub decreases-loop-from : goal.decreases-loop-from
decreases-loop-from g l = l.plan.rounds - l.from

abbrev pub invariant-loop-from : goal.invariant-loop-from
invariant-loop-from g l = record {
  goes : GoesThrough l.target l.plan.slots l.fn.copied l.fn.mirror l.from l.copied l.mirror;
  told : IsToldOfSlots g.G.Gate l.workers.gate.now (slots_before l.from l.plan.slots);
  low : l.from ≤ l.plan.rounds;
  small : l.from < 2 ^ 32;
}
