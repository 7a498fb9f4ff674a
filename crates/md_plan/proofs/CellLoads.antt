-- Classes given to sources, and what the sources hold then.
use Rattle.std.proofs.Common.{◌≡◌, ◌∙◌, ℕ, ◌+◌, ◌<◌, ◌≤◌, true, eqb, List, length, get_or, set, take, refl, sym, ap, arith, inl, inr, get_or-set_same, get_or-set_other}
use Rattle.std.specs.List.{list_all}
use Rattle.std.proofs.lemmas.Bool.{cases_eq}
use Rattle.std.proofs.lemmas.List.{length-set}
use Rattle.std.proofs.lemmas.List.Elements.{All-set}
use Rattle.std.proofs.lemmas.List.Sums.{sum_by-set, sum_by_more, sum_by_more_le_part}
use Rattle.md_cert.specs.Sources.{has}
use Rattle.md_plan.specs.declared.cell.Cell.{Cell}
use Rattle.md_plan.specs.Cells.{AreAllowed, load_of, count_with}
use Rattle.md_plan.specs.Classes.{AreClassesPlaced}
use Rattle.md_plan.proofs.Zeros.{zeros}
use Rattle.md_plan.proofs.CellMoves.{share, share_of, share_none, share_le}

pub placed_none : (cells : List Cell) → AreAllowed cells → AreClassesPlaced cells cells
placed_none cells allowed = record { counts = λ q. refl; allowed = allowed; long = refl }

pub placed_twice : (first middle last : List Cell) → AreClassesPlaced first middle → AreClassesPlaced middle last → AreClassesPlaced first last
placed_twice first middle last before after = record { counts = λ q. after.counts q ∙ before.counts q; allowed = after.allowed; long = after.long ∙ before.long }

-- one class more is given to a source of its mask
pub placed_more : (first cells : List Cell) (at : ℕ) (d : Cell) (source : ℕ) → at < length cells → has (get_or cells at d).mask source ≡ true → AreClassesPlaced first cells
    → AreClassesPlaced first (set cells at (record { mask = (get_or cells at d).mask; count = (get_or cells at d).count; source = source; next = (get_or cells at d).next }))
placed_more first cells at d source within it before =
    let y : Cell = record { mask = (get_or cells at d).mask; count = (get_or cells at d).count; source = source; next = (get_or cells at d).next } in
    record {
      counts = λ q. let s = sum_by-set (λ (x : Cell). share (q x.mask) x.count) cells at y d within in let b = before.counts q in omega (arith, s, b);
      allowed = All-set (λ (x : Cell). has x.mask x.source ≡ true) cells at y it before.allowed;
      long = length-set cells at y ∙ before.long;
    }

-- the loads of the cells below an index
pub record AreLoadsBelow (cells : List Cell) (loads : List ℕ) (at : ℕ) : Type 0 where
  pub long : length loads ≡ 32
  pub each : (s : ℕ) → s < 32 → get_or loads s 0 ≡ load_of s (take at cells)

pub loads_none : (cells : List Cell) (loads : List ℕ) → list_all (λ x. eqb x 0) loads ≡ true → length loads ≡ 32 → AreLoadsBelow cells loads 0
loads_none cells loads none long = record { long = long; each = λ s lt. zeros loads none s }

pub loads_more : (cells : List Cell) (loads : List ℕ) (at : ℕ) (d : Cell) (new : List ℕ) → at < length cells → (get_or cells at d).source < 32
    → new ≡ set loads (get_or cells at d).source (get_or loads (get_or cells at d).source 0 + (get_or cells at d).count) → AreLoadsBelow cells loads at → AreLoadsBelow cells new (at + 1)
loads_more cells loads at d new within lt e before =
    let c = get_or cells at d in
    let long = before.long in
    record {
      long = ap length e ∙ length-set loads c.source (get_or loads c.source 0 + c.count) ∙ before.long;
      each = λ s below.
          let b = before.each s below in
          let more : load_of s (take (at + 1) cells) ≡ load_of s (take at cells) + share (eqb c.source s) c.count = sum_by_more (λ (x : Cell). share (eqb x.source s) x.count) cells at d within in
          elim (cases_eq c.source s) [
            | inl same ↦
                let now : get_or new s 0 ≡ get_or loads s 0 + c.count = ap (λ n. get_or new n 0) (sym same) ∙ ap (λ xs. get_or xs c.source 0) e ∙ get_or-set_same loads c.source (get_or loads c.source 0 + c.count) 0 (omega arith) ∙ ap (λ n. get_or loads n 0 + c.count) same in
                let is = share_of s c same in
                omega (arith, more, b, now, is)
            | inr other ↦
                let now : get_or new s 0 ≡ get_or loads s 0 = ap (λ xs. get_or xs s 0) e ∙ get_or-set_other loads c.source s (get_or loads c.source 0 + c.count) 0 (λ f. other (sym f)) in
                let is = share_none s c other in
                omega (arith, more, b, now, is)
          ];
    }

-- a load does not grow past the number of all chunks
pub loads_fit : (cells : List Cell) (loads : List ℕ) (at : ℕ) (d : Cell) (source : ℕ) → at < length cells → source < 32 → AreLoadsBelow cells loads at → get_or loads source 0 + (get_or cells at d).count ≤ count_with (λ m. true) cells
loads_fit cells loads at d source within lt before =
    let b = before.each source lt in
    let le = sum_by_more_le_part (λ (x : Cell). share (eqb x.source source) x.count) (λ (x : Cell). share true x.count) cells at d within (λ x. share_le (eqb x.source source) x.count) in
    omega (arith, b, le)
