use Rattle.std.proofs.Common.{◌≡◌, ◌∙◌, ◌+◌, length, sym, subst, arith}
use Rattle.md_plan.specs.declared.cell.Cell.{Cell}
use Rattle.md_plan.proofs.ReachSteps.{ReachBelow, reach_none, reach_empty, reach_more, reach_all}
use Rattle.md_plan.proofs.reach.note_reach.Goals as goal
use Rattle.md_plan.proofs.reach.note_reach.Goals.{then-cell-gt0, else-cell-gt0}

pub loop-cell-init : goal.loop-cell-init
loop-cell-init c = reach_none c.args.cells.now c.loop-word.reach (λ k less. c.loop-word.invariant k (let long = c.requires.long in omega (arith, long)))

pub loop-cell-preserved : goal.loop-cell-preserved
loop-cell-preserved c =
    let cells = c.args.cells.now in
    let i = c.loop-cell.cell-index in
    let d : Cell = record { mask = 0; count = 0; source = 0; next = 0 } in
    elim c.if-cell-gt0.branch [
      | then-cell-gt0 w ↦
          reach_more cells c.loop-cell.reach i d c.if-cell-gt0.reach c.loop-cell-test.true w.if-cell-gt0.true (c.requires.sources i d c.loop-cell-test.true)
          (c.loop-cell.auto.reach ∙ c.loop-word.auto.reach ∙ c.requires.long) w.reach-is c.loop-cell.invariant
      | else-cell-gt0 w ↦
          subst (λ xs. ReachBelow cells xs (i + 1)) (sym w.reach-is)
          (reach_empty cells c.loop-cell.reach i d c.loop-cell-test.true (let le = w.if-cell-gt0.false in omega (arith, le)) c.loop-cell.invariant)
    ]

pub returns : goal.returns
returns c =
    let all : c.loop-cell.cell-index ≡ length c.args.cells.now = omega arith in
    reach_all c.args.cells.now c.loop-cell.reach (subst (ReachBelow c.args.cells.now c.loop-cell.reach) all c.loop-cell.invariant)
