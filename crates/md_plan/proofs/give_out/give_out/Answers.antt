use Rattle.std.proofs.Common.{◌≡◌, ◌∙◌, ◌+◌, ℕ, true, List, Vec, Global, get_or, take, refl, sym, ap, subst, arith}
use Rattle.std.proofs.lemmas.List.Sums.{count_by-le-length}
use Rattle.md_cert.specs.declared.table.Row.{Row}
use Rattle.md_cert.specs.declared.slots.Slot.{Slot}
use Rattle.md_cert.specs.Tables.{orphans_of}
use Rattle.md_cert.proofs.Bits.{has_below}
use Rattle.md_plan.specs.declared.cell.Cell.{Cell}
use Rattle.md_plan.specs.Slots.{AreCountsLeft, IsSlotting, SomeChunk}
use Rattle.md_plan.proofs.RowCounts.{passes}
use Rattle.md_plan.proofs.CellMoves.{along}
use Rattle.md_plan.proofs.Rings.{left_as_much}
use Rattle.md_plan.proofs.SlotLists.{left_some, left_skip, left_more, used_fits, slotting_none, slotting_skip, slotting_more, left_first, orphans_yes, orphans_no}
use Rattle.md_plan.proofs.give_out.give_out.Goals as goal
use Rattle.md_plan.proofs.give_out.give_out.Goals.{then-row-eq0+in_ok-push, else-row-eq0+in_ok-push-2}

pub loop-i-init : goal.loop-i-init
loop-i-init c = record {
  left = left_as_much c.args.rows.now 0 c.args.cells.now.items c.args.cells.now.items c.close_rings.new.cells.items _ c.in_ok-close_rings.ensures
      (left_first c.args.rows.now c.args.cells.now.items _ refl refl c.requires.allowed c.requires.counts);
  slotting = subst (λ xs. IsSlotting c.args.rows.now 0 xs _) (sym c.in_ok-slots.ensures.items) (slotting_none c.args.rows.now _);
  orphans_are = c.new-orphans.ensures.items;
}

pub next_cell-at-requires : goal.next_cell-at-requires
next_cell-at-requires c =
    let d : Row = record { chunk = 0; mask = 0 } in
    subst (λ (xs : List Cell). SomeChunk xs (get_or c.args.rows.now c.loop-i.i d).mask) (sym c.as_slice.ensures.value)
    (left_some c.args.rows.now c.loop-i.i d c.args.cells.now.items c.loop-i.cells.items c.loop-i.used c.loop-i-test.true c.if-row-eq0.false c.loop-i.invariant.left)

pub bounds-used-source : goal.bounds-used-source
bounds-used-source c = has_below _ c.take_one-source.result c.take_one-source.ensures.has

pub overflow_add-used : goal.overflow_add-used
overflow_add-used c =
    let lt = has_below _ c.take_one-source.result c.take_one-source.ensures.has in
    let le = used_fits c.args.rows.now c.loop-i.i c.args.cells.now.items c.loop-i.cells.items c.take_one-source.new.cells.items c.loop-i.used _ c.take_one-source.result lt c.loop-i.invariant.left c.take_one-source.ensures.takes in
    let same = c.requires.counts (λ m. true) in
    let n = count_by-le-length (λ (r : Row). passes (λ m. true) r) c.args.rows.now in
    let few = c.requires.few in
    record { fits = omega (arith, le, same, n, few) }

pub bounds-used-source-else-row-eq0 : goal.bounds-used-source-else-row-eq0
bounds-used-source-else-row-eq0 c = has_below _ c.take_one-source.result c.take_one-source.ensures.has

pub overflow_cast-source : goal.overflow_cast-source
overflow_cast-source c = let lt = has_below _ c.take_one-source.result c.take_one-source.ensures.has in record { fits = omega (arith, lt) }

pub loop-i-preserved : goal.loop-i-preserved
loop-i-preserved c =
    let rows = c.args.rows.now in
    let i = c.loop-i.i in
    let d : Row = record { chunk = 0; mask = 0 } in
    let before = c.loop-i.invariant in
    elim c.if-row-eq0.branch [
      | then-row-eq0+in_ok-push w ↦ record {
        left = along (λ (v : Vec Cell Global) (xs : List ℕ). AreCountsLeft rows (i + 1) c.args.cells.now.items v.items xs) _ _ _ _ (sym w.cells-is) (sym w.used-is)
            (left_skip rows i d c.args.cells.now.items c.loop-i.cells.items c.loop-i.used c.loop-i-test.true w.if-row-eq0.true before.left);
        slotting = along (λ (v : Vec Slot Global) (xs : List ℕ). IsSlotting rows (i + 1) v.items xs) _ _ _ _ (sym w.slots-is) (sym w.used-is)
            (slotting_skip rows i d c.loop-i.slots.items c.loop-i.used c.loop-i-test.true w.if-row-eq0.true before.slotting);
        orphans_are = orphans_yes rows i d c.loop-i.orphans.items c.if-row-eq0.orphans.items c.loop-i-test.true w.if-row-eq0.true (ap (λ (v : Vec ℕ Global). v.items) w.orphans-is ∙ w.in_ok-push.ensures.items) before.orphans_are;
      }
      | else-row-eq0+in_ok-push-2 w ↦
          let source_is = w.take_one-source.ensures.has in
          let lt = has_below _ w.take_one-source.result source_is in
          record {
            left = along (λ (v : Vec Cell Global) (xs : List ℕ). AreCountsLeft rows (i + 1) c.args.cells.now.items v.items xs) _ _ _ _ (sym w.cells-is) (sym w.used-is)
                (left_as_much rows (i + 1) c.args.cells.now.items w.take_one-source.new.cells.items w.turn_on.new.cells.items _ w.turn_on.ensures
                (left_more rows i d c.args.cells.now.items c.loop-i.cells.items w.take_one-source.new.cells.items c.loop-i.used _ w.take_one-source.result c.loop-i-test.true w.if-row-eq0.false lt before.left w.take_one-source.ensures.takes refl));
            slotting = along (λ (v : Vec Slot Global) (xs : List ℕ). IsSlotting rows (i + 1) v.items xs) _ _ _ _ (sym w.slots-is) (sym w.used-is)
                (slotting_more rows c.requires.table.rising i d c.loop-i.slots.items c.loop-i.used _ w.take_one-source.result _ c.loop-i-test.true before.left.long source_is refl w.in_ok-push-2.ensures.items before.slotting);
            orphans_are = subst (λ (v : Vec ℕ Global). v.items ≡ orphans_of (take (i + 1) rows)) (sym w.orphans-is) (orphans_no rows i d c.loop-i.orphans.items c.loop-i-test.true w.if-row-eq0.false before.orphans_are);
          }
    ]
