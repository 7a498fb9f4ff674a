-- Cells that hold as much as others.
use Rattle.std.proofs.Common.{◌≡◌, ◌∙◌, ℕ, ◌+◌, ◌<◌, Bool, true, false, eqb, List, [], ◌∷◌, ◌++◌, length, get_or, set, refl, ap, arith, length-append}
use Rattle.std.specs.List.{sum_by}
use Rattle.std.proofs.lemmas.List.{get_or_append_left}
use Rattle.std.proofs.lemmas.List.Elements.{All-set, All-push}
use Rattle.std.proofs.lemmas.List.Sums.{sum_by-set, sum_by_push}
use Rattle.md_cert.specs.declared.table.Row.{Row}
use Rattle.md_cert.specs.Sources.{has}
use Rattle.md_plan.specs.declared.cell.Cell.{Cell}
use Rattle.md_plan.specs.Slots.{AreCountsLeft, HoldAsMuch}
use Rattle.md_plan.proofs.CellMoves.{share}

pub as_much_twice : (a b c : List Cell) → HoldAsMuch a b → HoldAsMuch b c → HoldAsMuch a c
as_much_twice a b c before after = record {
  counts = λ q. after.counts q ∙ before.counts q;
  loads = λ s. after.loads s ∙ before.loads s;
  allowed = λ all. after.allowed (before.allowed all);
}

share_zero : (b : Bool) → share b 0 ≡ 0
share_zero true = refl
share_zero false = refl

-- what a cell holds goes to a new one
pub as_much_moved : (cells : List Cell) (at : ℕ) (d : Cell) → at < length cells
    → HoldAsMuch cells (set (cells ++ get_or cells at d ∷ []) at (record { mask = (get_or cells at d).mask; count = 0; source = (get_or cells at d).source; next = (get_or cells at d).next }))
as_much_moved cells at d within =
    let c = get_or cells at d in
    let y : Cell = record { mask = c.mask; count = 0; source = c.source; next = c.next } in
    let long : length (cells ++ c ∷ []) ≡ length cells + 1 = length-append cells (c ∷ []) in
    let within' : at < length (cells ++ c ∷ []) = omega arith in
    let old : get_or (cells ++ c ∷ []) at d ≡ c = get_or_append_left cells (c ∷ []) d at within in
    let sums : (f : Cell → ℕ) → f y ≡ 0 → sum_by f (set (cells ++ c ∷ []) at y) ≡ sum_by f cells = λ f none.
    let e = sum_by-set f (cells ++ c ∷ []) at y d within' in
    let p = sum_by_push f cells c in
    let o = ap f old in
    omega (arith, e, p, o, none) in
    record {
      counts = λ q. sums (λ (x : Cell). share (q x.mask) x.count) (share_zero (q c.mask));
      loads = λ s. sums (λ (x : Cell). share (eqb x.source s) x.count) (share_zero (eqb c.source s));
      allowed = λ all. All-set (λ (x : Cell). has x.mask x.source ≡ true) (cells ++ c ∷ []) at y (all at d within) (All-push (λ (x : Cell). has x.mask x.source ≡ true) cells c all (all at d within));
    }

-- what is left to be given is left in cells that hold as much
pub left_as_much : (rows : List Row) (i : ℕ) (first old new : List Cell) (used : List ℕ) → HoldAsMuch old new → AreCountsLeft rows i first old used → AreCountsLeft rows i first new used
left_as_much rows i first old new used same left = record {
  counts = λ q. same.counts q ∙ left.counts q;
  allowed = same.allowed left.allowed;
  long = left.long;
  each = λ s lt. let e = left.each s lt in let l = same.loads s in omega (arith, e, l);
}
