use Rattle.std.proofs.Common.{◌≡◌, ◌∙◌, ◌-◌, ℕ, List, [], ◌∷◌, ◌++◌, get_or, set, sym, ap, arith}
use Rattle.std.proofs.lemmas.List.{get_or_default, get_or_append_left}
use Rattle.md_plan.specs.declared.cell.Cell.{Cell}
use Rattle.md_plan.specs.Cells.{Moves}
use Rattle.md_plan.proofs.CellMoves.{along, moves_part, moves_whole}
use Rattle.md_plan.proofs.shift.move_part.Goals as goal

pub returns-then-cell-most-clause-moves : goal.returns-then-cell-most-clause-moves
returns-then-cell-most-clause-moves c =
    let cells = c.args.cells.now.items in
    let at = c.args.at in
    let x : Cell = c.index-cell.result.now in
    let y : Cell = c.index_mut-target.result.now in
    let same : get_or cells at x ≡ y = get_or_default cells at x y c.requires.within ∙ sym c.index_mut-target.ensures.value in
    along (λ (a b : Cell). Moves cells (set cells at (record { mask = a.mask; count = a.count; source = c.args.to; next = a.next })) c.args.from c.args.to b.count)
    (get_or cells at x) y (get_or cells at x) x same (sym c.index-cell.ensures)
    (moves_whole cells at x c.args.from c.args.to c.requires.within (c.requires.movable x) c.requires.apart)

pub returns-clause-moves : goal.returns-clause-moves
returns-clause-moves c =
    let cells = c.args.cells.now.items in
    let at = c.args.at in
    let x : Cell = c.index-cell.result.now in
    let y : Cell = c.index_mut-rest.result.now in
    let old : Cell = get_or cells at x in
    let rest : ℕ = x.count - c.args.most in
    let is_x : old ≡ x = sym c.index-cell.ensures in
    let items : c.push.new.self.items ≡ cells ++ record { mask = x.mask; count = c.args.most; source = c.args.to; next = x.next } ∷ [] = c.in_ok-push.ensures.items in
    let pushed : List Cell = record { mask = x.mask; count = c.args.most; source = c.args.to; next = x.next } ∷ [] in
    let is_y : old ≡ y = get_or_default cells at x y c.requires.within ∙ sym (get_or_append_left cells pushed y at c.requires.within) ∙ ap (λ zs. get_or zs at y) (sym items) ∙ sym c.index_mut-rest.ensures.value in
    let counts : x.count ≡ old.count = ap (λ (z : Cell). z.count) c.index-cell.ensures in
    along (λ (zs : List Cell) (a : Cell). Moves cells (set zs at (record { mask = a.mask; count = rest; source = a.source; next = c.unwrap_or-new.result })) c.args.from c.args.to c.args.most)
    (cells ++ record { mask = old.mask; count = c.args.most; source = c.args.to; next = old.next } ∷ []) c.push.new.self.items old y
    (ap (λ (z : Cell). cells ++ record { mask = z.mask; count = c.args.most; source = c.args.to; next = z.next } ∷ []) is_x ∙ sym items) is_y
    (moves_part cells at x c.args.from c.args.to c.args.most rest c.unwrap_or-new.result c.requires.within (c.requires.movable x) c.requires.apart (let more = c.if-cell-most.false in omega (arith, more, counts)))
