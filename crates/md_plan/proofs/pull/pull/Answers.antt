use Rattle.std.proofs.Common.{◌≡◌, ◌<◌, get_or, refl, arith}
use Rattle.md_cert.proofs.Bits.{has_below}
use Rattle.md_plan.specs.Cells.{load_of}
use Rattle.md_plan.proofs.PathPulls.{child_of, pulling_first, pulling_more}
use Rattle.md_plan.proofs.pull.pull.Goals as goal

pub loop-to-init : goal.loop-to-init
loop-to-init c = (
  c.requires.path.sources,
  c.requires.path.forest,
  pulling_first c.args.cells.now.items c.args.loads.now c.args.reach.now c.args.bound c.args.order.now c.args.parent.now c.args.light c.requires.allowed c.requires.loads c.requires.reach c.requires.path,
)

pub bounds-order-to : goal.bounds-order-to
bounds-order-to c = let lt : c.loop-to.to < 32 = has_below c.loop-to.invariant.0 c.loop-to.to c.loop-to.invariant.2.seen in let long = c.requires.order in omega (arith, lt, long)

pub bounds-loads-from : goal.bounds-loads-from
bounds-loads-from c =
    let sources = c.loop-to.invariant.0 in
    let state = c.loop-to.invariant.2 in
    let child = child_of c.args.loads.now c.args.reach.now c.args.bound sources c.args.order.now c.args.parent.now c.loop-to.invariant.1 c.loop-to.to state.seen c.loop-to-test.true in
    let lt : get_or c.args.parent.now c.loop-to.to 0 < 32 = has_below sources (get_or c.args.parent.now c.loop-to.to 0) child.seen in
    let long = state.are_loads.long in
    omega (arith, lt, long)

pub overflow_sub-loads : goal.overflow_sub-loads
overflow_sub-loads c =
    let sources = c.loop-to.invariant.0 in
    let state = c.loop-to.invariant.2 in
    let child = child_of c.args.loads.now c.args.reach.now c.args.bound sources c.args.order.now c.args.parent.now c.loop-to.invariant.1 c.loop-to.to state.seen c.loop-to-test.true in
    let from = get_or c.args.parent.now c.loop-to.to 0 in
    let holds : get_or c.loop-to.loads from 0 ≡ load_of from c.loop-to.cells.items = state.are_loads.each from (has_below sources from child.seen) in
    let gives = c.in_ok-moved.ensures.moves.from in
    omega (arith, holds, gives)

pub bounds-loads-from-in-loop-to : goal.bounds-loads-from-in-loop-to
bounds-loads-from-in-loop-to c =
    let sources = c.loop-to.invariant.0 in
    let state = c.loop-to.invariant.2 in
    let child = child_of c.args.loads.now c.args.reach.now c.args.bound sources c.args.order.now c.args.parent.now c.loop-to.invariant.1 c.loop-to.to state.seen c.loop-to-test.true in
    let lt : get_or c.args.parent.now c.loop-to.to 0 < 32 = has_below sources (get_or c.args.parent.now c.loop-to.to 0) child.seen in
    let long = state.are_loads.long in
    omega (arith, lt, long)

pub loop-to-preserved : goal.loop-to-preserved
loop-to-preserved c =
    let sources = c.loop-to.invariant.0 in (
      sources,
      c.loop-to.invariant.1,
      pulling_more c.args.cells.now.items c.args.loads.now c.args.reach.now c.args.bound c.args.order.now c.args.parent.now sources c.loop-to.cells.items c.loop-to.loads c.loop-to.to c.in_ok-moved.moved c.shift.new.cells.items _ _
          c.loop-to.invariant.1 c.loop-to.invariant.2 c.loop-to-test.true c.in_ok-moved.ensures.number.0 c.in_ok-moved.ensures.number.1 c.in_ok-moved.ensures.moves refl refl,
    )
