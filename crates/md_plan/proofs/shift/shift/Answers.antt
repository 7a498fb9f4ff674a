use Rattle.std.proofs.Common.{◌≡◌, ◌∙◌, ◌+◌, ◌<◌, ◌≤◌, ℕ, List, length, get_or, sym, subst, arith, inl, ◌⊎◌, Vec, Global}
use Rattle.std.specs.List.{HoldsAt}
use Rattle.std.proofs.lemmas.Bool.{both_ways}
use Rattle.md_plan.specs.declared.cell.Cell.{Cell}
use Rattle.md_plan.specs.Cells.{IsMovable, Moves}
use Rattle.md_plan.proofs.CellMoves.{along, moves_more, skip}
use Rattle.md_plan.proofs.shift.shift.Goals as goal
use Rattle.md_plan.proofs.shift.shift.Goals.{then-cell-gt0+then-cell-from+then-has_source+in_ok-moved, else-cell-gt0, else-cell-gt0-via-then-cell-gt0+then-cell-from+else-has_source, else-cell-gt0-via-then-cell-gt0+else-cell-from, else-cell-gt0-via-else-cell-gt0}

pub loop-at-preserved : goal.loop-at-preserved
loop-at-preserved c =
    let before : List Cell = c.loop-at.cells.items in
    let x : Cell = c.index-cell.result.now in
    let read : x ≡ get_or before c.loop-at.at x = c.index-cell.ensures in
    elim c.if-cell-gt0.branch [
      | then-cell-gt0+then-cell-from+then-has_source+in_ok-moved w ↦
          let long : length before ≤ length c.if-cell-gt0.cells.items = subst (λ (v : Vec Cell Global). length before ≤ length v.items) (sym w.cells-is) w.in_ok-moved.ensures.others.long in
          let number = w.in_ok-moved.ensures.number in
          record {
            long = omega arith;
            few = omega arith;
            moves = along (λ (v : Vec Cell Global) (n : ℕ). Moves c.args.cells.now.items v.items c.args.from c.args.to n) _ _ _ _ (sym w.cells-is) (sym w.moved-is)
                (moves_more c.args.cells.now.items before w.move_part.new.cells.items c.args.from c.args.to c.loop-at.moved w.in_ok-moved.field-0 c.loop-at.invariant.moves w.in_ok-moved.ensures.moves);
            more = inl (omega arith);
          }
      | else-cell-gt0 w ↦
          let none : HoldsAt (IsMovable c.args.from c.args.to) before c.loop-at.at → ⊥ = λ m.
          let at : IsMovable c.args.from c.args.to x = subst (IsMovable c.args.from c.args.to) (sym read) (m x) in
          elim w.else-cell-gt0.branch [
            | else-cell-gt0-via-then-cell-gt0+then-cell-from+else-has_source v ↦ both_ways _ v.if-has_source.false (v.has_source.ensures ∙ at.mask)
            | else-cell-gt0-via-then-cell-gt0+else-cell-from v ↦ v.if-cell-from.false at.source
            | else-cell-gt0-via-else-cell-gt0 v ↦ let zero = v.if-cell-gt0.false in let some = at.some in omega (arith, zero, some)
          ] in
          record {
            long = subst (λ (v : Vec Cell Global). c.len-end.result ≤ length v.items) (sym w.cells-is) c.loop-at.invariant.long;
            few = omega arith;
            moves = along (λ (v : Vec Cell Global) (n : ℕ). Moves c.args.cells.now.items v.items c.args.from c.args.to n) _ _ _ _ (sym w.cells-is) (sym w.moved-is) c.loop-at.invariant.moves;
            more = along (λ (v : Vec Cell Global) (n : ℕ). (0 < n) ⊎ ((k : ℕ) × (c.loop-at.at + 1 ≤ k) × (k < c.len-end.result) × HoldsAt (IsMovable c.args.from c.args.to) v.items k)) _ _ _ _ (sym w.cells-is) (sym w.moved-is)
                (skip before c.loop-at.at c.len-end.result c.args.from c.args.to c.loop-at.moved none c.loop-at.invariant.more);
          }
    ]
