use Rattle.std.proofs.Common.{◌≡◌, ◌∙◌, ◌<◌, List, [], ◌∷◌, ◌++◌, length, get_or, set, sym, ap, arith}
use Rattle.md_plan.specs.declared.cell.Cell.{Cell}
use Rattle.md_plan.specs.Slots.{HoldAsMuch}
use Rattle.md_plan.proofs.CellMoves.{along}
use Rattle.md_plan.proofs.Rings.{as_much_moved}
use Rattle.md_plan.proofs.ring.move_out.Goals as goal

pub returns-in_ok-push : goal.returns-in_ok-push
returns-in_ok-push c =
    let cells = c.args.cells.now.items in
    let at = c.args.at in
    let x : Cell = c.index-cell.result.now in
    let within : at < length cells = omega arith in
    let items : c.push.new.self.items ≡ cells ++ x ∷ [] = c.in_ok-push.ensures.items in
    let is_x : get_or cells at x ≡ x = sym c.index-cell.ensures in
    along (λ (zs : List Cell) (a : Cell). HoldAsMuch cells (set zs at (record { mask = a.mask; count = 0; source = a.source; next = a.next })))
    (cells ++ get_or cells at x ∷ []) c.push.new.self.items (get_or cells at x) x
    (ap (λ (z : Cell). cells ++ z ∷ []) is_x ∙ sym items) is_x
    (as_much_moved cells at x within)
