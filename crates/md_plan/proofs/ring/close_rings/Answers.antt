use Rattle.std.proofs.Common.{List, Vec, Global, sym, subst}
use Rattle.md_plan.specs.declared.cell.Cell.{Cell}
use Rattle.md_plan.specs.Slots.{HoldAsMuch}
use Rattle.md_plan.proofs.Rings.{as_much_twice}
use Rattle.md_plan.proofs.ring.close_rings.Goals as goal
use Rattle.md_plan.proofs.ring.close_rings.Goals.{then-class-classes+in_ok-move_out, else-class-classes}

pub parts-preserved : goal.parts-preserved
parts-preserved c =
    let first : List Cell = c.args.cells.now.items in
    let before : List Cell = c.parts.cells.items in
    elim c.if-class-classes.branch [
      | then-class-classes+in_ok-move_out w ↦
          let moved : HoldAsMuch first w.move_out.new.cells.items = as_much_twice first before w.move_out.new.cells.items c.parts.invariant.same w.in_ok-move_out.ensures in
          let linked : HoldAsMuch first w.link.new.cells.items = as_much_twice first w.move_out.new.cells.items w.link.new.cells.items moved w.link.ensures in
          record {
            same = subst (λ (v : Vec Cell Global). HoldAsMuch first v.items) (sym w.cells-is)
                (as_much_twice first w.link.new.cells.items w.link-then-class-classes.new.cells.items linked w.link-then-class-classes.ensures);
          }
      | else-class-classes w ↦ record { same = subst (λ (v : Vec Cell Global). HoldAsMuch first v.items) (sym w.cells-is) c.parts.invariant.same }
    ]
