use Rattle.std.proofs.Common.{◌≤◌, arith}
use Rattle.std.proofs.lemmas.Result.{err_from_is_err_and}
use Rattle.md_cert.specs.declared.slots.Slot.{Slot}
use Rattle.md_collect.specs.Workers.Gates.{IsTold}
use Rattle.md_copy.proofs.Passing.StretchesGo.{all_before, all_through, begins_through, ends_through, goes_through, more_before, none_before}
use Rattle.md_copy.proofs.passes.stretches.copy_stretches.Goals as goal

pub loop-from-init : goal.loop-from-init
loop-from-init g c = record {
  goes = begins_through c.args.target c.args.plan.now.slots c.args.copied.now c.args.mirror.now c.requires.within c.requires.ready c.requires.held c.requires.left;
  told = none_before (λ (s : Slot). IsTold g.G.Gate c.args.workers.now.gate.now s.source s.chunk) c.args.plan.now.slots;
  low = omega arith;
  small = omega arith;
}

pub returns-in_err-copy_stretch-clause-gives : goal.returns-in_err-copy_stretch-clause-gives
returns-in_err-copy_stretch-clause-gives g c =
    let p = err_from_is_err_and c.from_residual.result c.from_residual.ensures.1 in
    let le : c.loop-from.from ≤ c.min-to.result = (let sum = c.saturating_add.ensures in let least = c.min-to.ensures in let low = c.loop-from.invariant.low in let small = c.loop-from.invariant.small in omega (arith, sum, least, low, small)) in
    rw (p.1, p.2) (ends_through c.args.target c.args.plan.now.slots c.args.copied.now c.args.mirror.now c.loop-from.from c.loop-from.copied c.loop-from.mirror c.loop-from.invariant.goes c.min-to.result le
    c.copy_stretch.new.copied c.copy_stretch.new.mirror c.in_err-copy_stretch.field-0.0 c.in_err-copy_stretch.ensures.gives)

pub returns-then-to-plan-clause-gives : goal.returns-then-to-plan-clause-gives
returns-then-to-plan-clause-gives g c =
    let le : c.loop-from.from ≤ c.min-to.result = (let sum = c.saturating_add.ensures in let least = c.min-to.ensures in let low = c.loop-from.invariant.low in let small = c.loop-from.invariant.small in omega (arith, sum, least, low, small)) in
    all_through c.args.target c.args.plan.now.slots c.args.copied.now c.args.mirror.now c.loop-from.from c.loop-from.copied c.loop-from.mirror c.loop-from.invariant.goes c.min-to.result le
    c.copy_stretch.new.copied c.copy_stretch.new.mirror c.in_ok-copy_stretch.ensures.gives c.args.plan.now.rounds c.requires.in_time c.if-to-plan.true

pub returns-then-to-plan-clause-told : goal.returns-then-to-plan-clause-told
returns-then-to-plan-clause-told g c =
    let slots = c.args.plan.now.slots in
    all_before (λ (s : Slot). IsTold g.G.Gate c.args.workers.now.gate.now s.source s.chunk) slots c.args.plan.now.rounds c.min-to.result c.requires.in_time c.if-to-plan.true
    (more_before (λ (s : Slot). IsTold g.G.Gate c.args.workers.now.gate.now s.source s.chunk) slots c.loop-from.from c.min-to.result c.loop-from.invariant.told c.in_ok-copy_stretch.ensures.told)

pub loop-from-preserved : goal.loop-from-preserved
loop-from-preserved g c =
    let slots = c.args.plan.now.slots in
    let sum = c.saturating_add.ensures in
    let least = c.min-to.ensures in
    let low = c.loop-from.invariant.low in
    let small = c.loop-from.invariant.small in
    let le : c.loop-from.from ≤ c.min-to.result = omega (arith, sum, least, low, small) in
    record {
      goes = goes_through c.args.target slots c.args.copied.now c.args.mirror.now c.loop-from.from c.loop-from.copied c.loop-from.mirror c.loop-from.invariant.goes c.min-to.result le c.copy_stretch.new.copied c.copy_stretch.new.mirror
          c.in_ok-copy_stretch.ensures.gives c.in_ok-copy_stretch.ensures.ready c.in_ok-copy_stretch.ensures.held c.in_ok-copy_stretch.ensures.left;
      told = more_before (λ (s : Slot). IsTold g.G.Gate c.args.workers.now.gate.now s.source s.chunk) slots c.loop-from.from c.min-to.result c.loop-from.invariant.told c.in_ok-copy_stretch.ensures.told;
      low = omega (arith, least);
      small = omega (arith, least, sum);
    }
