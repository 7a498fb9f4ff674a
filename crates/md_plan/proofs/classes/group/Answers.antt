use Rattle.std.proofs.Common.{◌≡◌, ◌∙◌, ◌+◌, ◌^◌, List, [], ◌∷◌, ◌++◌, Vec, Global, length, take, sym, ap, subst, arith}
use Rattle.std.proofs.lemmas.List.{take_all}
use Rattle.md_cert.specs.declared.table.Row.{Row}
use Rattle.md_plan.specs.declared.cell.Cell.{Cell}
use Rattle.md_plan.specs.declared.classes.Entry.{Entry}
use Rattle.md_plan.specs.Classes.{IsGroupedBelow}
use Rattle.md_plan.proofs.RowCounts.{grouped_none, grouped_more, grouped_orphan, class_small}
use Rattle.md_plan.proofs.classes.group.Goals as goal
use Rattle.md_plan.proofs.classes.group.Goals.{then-row-ne0+in_ok-last, else-row-ne0}

pub loop-row-init : goal.loop-row-init
loop-row-init c = record {
  grouped = grouped_none c.args.rows.now c.in_ok-cells.cells.items c.in_ok-class_of.class_of.items c.in_ok-cells.ensures.items c.in_ok-class_of.ensures.items;
  small = omega arith;
  index = let e = c.in_ok-index.ensures.len in omega (arith, e);
}

pub add_one-requires-clause-small : goal.add_one-requires-clause-small
add_one-requires-clause-small c = λ d.
    let small = class_small c.args.rows.now c.loop-row.row-index c.loop-row.cells.items c.class_for.new.cells.items c.loop-row.class_of.items _ c.in_ok-last.last (omega arith) c.loop-row.invariant.grouped c.in_ok-last.ensures.class d in
    let few = c.requires in
    omega (arith, small, few)

pub overflow_cast-last : goal.overflow_cast-last
overflow_cast-last c =
    let few = c.requires in
    let small = c.loop-row.invariant.small in
    let cells_few = c.loop-row.invariant.grouped.few in
    elim c.if-row-ne0.branch [
      | then-row-ne0+in_ok-last w ↦
          let within = w.in_ok-last.ensures.class.within in
          let class_few = w.in_ok-last.ensures.class.few in
          record { fits = omega (arith, few, within, class_few, cells_few) }
      | else-row-ne0 w ↦ record { fits = omega (arith, few, small) }
    ]

pub loop-row-preserved : goal.loop-row-preserved
loop-row-preserved c =
    let rows : List Row = c.args.rows.now in
    let i = c.loop-row.row-index in
    let d : Row = record { chunk = 0; mask = 0 } in
    elim c.if-row-ne0.branch [
      | then-row-ne0+in_ok-last w ↦
          let class = w.in_ok-last.ensures.class in
          let few = c.loop-row.invariant.grouped.few in
          record {
            grouped = subst (λ (v : Vec Cell Global). IsGroupedBelow rows (i + 1) (take (i + 1) rows) v.items c.push.new.self.items) (sym w.cells-is)
                (grouped_more rows i d c.loop-row.cells.items w.class_for.new.cells.items _ c.loop-row.class_of.items c.push.new.self.items w.in_ok-last.last (omega arith) w.if-row-ne0.true
                (c.in_ok-push.ensures.items ∙ ap (λ n. c.loop-row.class_of.items ++ n ∷ []) w.last-is) class w.add_one.ensures c.loop-row.invariant.grouped);
            small = let lt = class.within in let f = class.few in let e = w.last-is in omega (arith, lt, f, e, few);
            index = subst (λ (v : Vec Entry Global). length v.items ≡ 2 ^ 14) (sym w.index-is) w.in_ok-last.ensures.index;
          }
      | else-row-ne0 w ↦ record {
        grouped = subst (λ (v : Vec Cell Global). IsGroupedBelow rows (i + 1) (take (i + 1) rows) v.items c.push.new.self.items) (sym w.cells-is)
            (grouped_orphan rows i d c.loop-row.cells.items c.loop-row.class_of.items c.push.new.self.items c.if-row-ne0.last (omega arith) w.if-row-ne0.false c.in_ok-push.ensures.items c.loop-row.invariant.grouped);
        small = let e = w.last-is in let s = c.loop-row.invariant.small in omega (arith, e, s);
        index = subst (λ (v : Vec Entry Global). length v.items ≡ 2 ^ 14) (sym w.index-is) c.loop-row.invariant.index;
      }
    ]

pub returns : goal.returns
returns c =
    let rows : List Row = c.args.rows.now in
    let i = c.loop-row.row-index in
    let done : i ≡ length rows = omega arith in
    let all = take_all i rows (omega arith) in
    subst (λ n. IsGroupedBelow rows n rows c.loop-row.cells.items c.loop-row.class_of.items) done
    (subst (λ part. IsGroupedBelow rows i part c.loop-row.cells.items c.loop-row.class_of.items) all c.loop-row.invariant.grouped)
