-- Rows by class.
use Rattle.std.proofs.Common.{◌≡◌, ◌∙◌, ℕ, ◌+◌, ◌<◌, ◌≤◌, Bool, true, false, not, ◌&&◌, eqb, List, [], ◌∷◌, ◌++◌, length, get_or, take, refl, sym, ap, subst, arith, length-append}
use Rattle.std.specs.List.{HoldsAt}
use Rattle.std.proofs.lemmas.Bool.{ne_eqb, eq-eqb}
use Rattle.std.proofs.lemmas.List.{length-take-le}
use Rattle.std.proofs.lemmas.List.Elements.{All-push}
use Rattle.std.proofs.lemmas.List.Sums.{sum_by_more, sum_by_push, get_or-le-sum_by, count_by-le-length}
use Rattle.std.proofs.Math.Seq.{get_or-append_seam}
use Rattle.md_cert.specs.declared.table.Row.{Row}
use Rattle.md_cert.specs.Sources.{has}
use Rattle.md_plan.specs.declared.cell.Cell.{Cell}
use Rattle.md_plan.specs.Cells.{AreAllowed, count_with}
use Rattle.md_plan.specs.Classes.{AddsOne, HasClass, IsGroupedBelow, count_rows}
use Rattle.md_plan.proofs.CellMoves.{share}

share_nothing : (b : Bool) → share b 0 ≡ 0
share_nothing true = refl
share_nothing false = refl

-- a class with no chunks yet
pub class_new : (cells : List Cell) (mask source next : ℕ) (new : List Cell) → has mask source ≡ true → new ≡ cells ++ record { mask = mask; count = 0; source = source; next = next } ∷ [] → HasClass cells new mask (length cells)
class_new cells mask source next new it e =
    let x : Cell = record { mask = mask; count = 0; source = source; next = next } in
    let long : length new ≡ length cells + 1 = ap length e ∙ length-append cells (x ∷ []) in
    record {
      within = omega arith;
      mask_is = λ d. ap (λ (xs : List Cell). (get_or xs (length cells) d).mask) e ∙ ap (λ (c : Cell). c.mask) (get_or-append_seam cells x [] d);
      counts = λ q.
          let p = sum_by_push (λ (c : Cell). share (q c.mask) c.count) cells x in
          let z : share (q mask) 0 ≡ 0 = share_nothing (q mask) in
          let s : count_with q new ≡ count_with q (cells ++ x ∷ []) = ap (count_with q) e in
          omega (arith, p, z, s);
      allowed = λ all. subst AreAllowed (sym e) (All-push (λ (c : Cell). has c.mask c.source ≡ true) cells x all it);
      long = omega arith;
      few = omega arith;
    }

-- whether a row has a source and its mask passes
abbrev pub passes : (ℕ → Bool) → Row → Bool
passes q r = not (eqb r.mask 0) && q r.mask

pub rows_more : (q : ℕ → Bool) (rows : List Row) (i : ℕ) (d : Row) → i < length rows → count_rows q (take (i + 1) rows) ≡ count_rows q (take i rows) + share (passes q (get_or rows i d)) 1
rows_more q rows i d within = sum_by_more (λ (r : Row). share (passes q r) 1) rows i d within

pub passes_some : (q : ℕ → Bool) (r : Row) → (r.mask ≡ 0 → ⊥) → passes q r ≡ q r.mask
passes_some q r some = ap (λ (b : Bool). not b && q r.mask) (ne_eqb r.mask 0 some)

pub passes_none : (q : ℕ → Bool) (r : Row) → r.mask ≡ 0 → passes q r ≡ false
passes_none q r none = ap (λ (b : Bool). not b && q r.mask) (eq-eqb r.mask 0 none)

-- a row with no source
pub grouped_orphan : (rows : List Row) (i : ℕ) (d : Row) (cells : List Cell) (class_of new : List ℕ) (last : ℕ) → i < length rows → (get_or rows i d).mask ≡ 0 → new ≡ class_of ++ last ∷ []
    → IsGroupedBelow rows i (take i rows) cells class_of → IsGroupedBelow rows (i + 1) (take (i + 1) rows) cells new
grouped_orphan rows i d cells class_of new last within none e before =
    let long : length new ≡ length class_of + 1 = ap length e ∙ length-append class_of (last ∷ []) in
    let old = before.long in
    let few = before.few in
    record {
      counts = λ q.
          let b = before.counts q in
          let m = rows_more q rows i d within in
          let z : share (passes q (get_or rows i d)) 1 ≡ 0 = ap (λ b. share b 1) (passes_none q (get_or rows i d) none) in
          omega (arith, b, m, z);
      allowed = before.allowed;
      long = omega arith;
      few = omega arith;
    }

-- a row of a class
pub grouped_more : (rows : List Row) (i : ℕ) (d : Row) (cells with_class new_cells : List Cell) (class_of new : List ℕ) (last : ℕ) → i < length rows → ((get_or rows i d).mask ≡ 0 → ⊥) → new ≡ class_of ++ last ∷ []
    → HasClass cells with_class (get_or rows i d).mask last → AddsOne with_class new_cells last
    → IsGroupedBelow rows i (take i rows) cells class_of → IsGroupedBelow rows (i + 1) (take (i + 1) rows) new_cells new
grouped_more rows i d cells with_class new_cells class_of new last within some e class one before =
    let long : length new ≡ length class_of + 1 = ap length e ∙ length-append class_of (last ∷ []) in
    let old = before.long in
    let few = before.few in
    let class_few = class.few in
    let class_long = class.long in
    let class_within = class.within in
    let one_long = one.long in
    let x : Cell = record { mask = 0; count = 0; source = 0; next = 0 } in
    record {
      counts = λ q.
          let b = before.counts q in
          let m = rows_more q rows i d within in
          let s = class.counts q in
          let o = one.counts q x in
          let at : share (passes q (get_or rows i d)) 1 ≡ share (q (get_or with_class last x).mask) 1 =
          ap (λ b. share b 1) (passes_some q (get_or rows i d) some ∙ ap q (sym (class.mask_is x))) in
          omega (arith, b, m, s, o, at);
      allowed = one.allowed (class.allowed before.allowed);
      long = omega arith;
      few = omega arith;
    }

-- a class has no more chunks than there are rows
pub class_small : (rows : List Row) (i : ℕ) (cells with_class : List Cell) (class_of : List ℕ) (mask last : ℕ) → i ≤ length rows → IsGroupedBelow rows i (take i rows) cells class_of → HasClass cells with_class mask last → HoldsAt (λ c. c.count ≤ length rows) with_class last
class_small rows i cells with_class class_of mask last le before class d =
    let at = get_or-le-sum_by (λ (c : Cell). share true c.count) with_class last d class.within in
    let s = class.counts (λ m. true) in
    let b = before.counts (λ m. true) in
    let n = count_by-le-length (λ (r : Row). passes (λ m. true) r) (take i rows) in
    let t = length-take-le i rows le in
    omega (arith, at, s, b, n, t)

-- before the first row there is no class
pub grouped_none : (rows : List Row) (cells : List Cell) (class_of : List ℕ) → cells ≡ [] → class_of ≡ [] → IsGroupedBelow rows 0 [] cells class_of
grouped_none rows cells class_of no_cells no_classes =
    let none : IsGroupedBelow rows 0 [] [] [] = record {
      counts = λ q. refl;
      allowed = λ k d less. absurd (omega arith);
      long = refl;
      few = omega arith;
    } in
    subst (λ xs. IsGroupedBelow rows 0 [] xs class_of) (sym no_cells) (subst (λ ys. IsGroupedBelow rows 0 [] [] ys) (sym no_classes) none)
