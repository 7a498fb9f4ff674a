-- A test of the numbers below a bound, as a loop makes it.
use Rattle.std.proofs.Common.{◌≡◌, ◌∙◌, ap, sym, ◌<◌, ◌+◌, ◌||◌, ℕ, Bool, true, false, take, arith}
use Rattle.std.proofs.Math.Seq.{take-length}
use Rattle.std.specs.List.{list_any, range_with_len}
use Rattle.std.proofs.lemmas.List.Folds.{list_any_at, list_any_more}
use Rattle.std.proofs.lemmas.List.FromFn.{get_or-range_with_len, length-range_with_len}

pub below_more : (p : ℕ → Bool) (n i : ℕ) → i < n
    → list_any p (take (i + 1) (range_with_len 0 n)) ≡ (list_any p (take i (range_with_len 0 n)) || p i)
below_more p n i within =
    let many = length-range_with_len 0 n in
    list_any_more p (range_with_len 0 n) i 0 (omega (arith, within, many))
    ∙ ap (λ x. list_any p (take i (range_with_len 0 n)) || p x) (let is = get_or-range_with_len 0 n i 0 within in omega (arith, is))

pub below_at : (p : ℕ → Bool) (n i : ℕ) → i < n → p i ≡ true → list_any p (range_with_len 0 n) ≡ true
below_at p n i within found =
    let many = length-range_with_len 0 n in
    list_any_at p (range_with_len 0 n) i 0 (omega (arith, within, many))
    (ap p (let is = get_or-range_with_len 0 n i 0 within in omega (arith, is)) ∙ found)

pub below_all : (p : ℕ → Bool) (n i : ℕ) → i ≡ n → list_any p (take i (range_with_len 0 n)) ≡ false → false ≡ list_any p (range_with_len 0 n)
below_all p n i end none =
    sym none
    ∙ ap (list_any p) (ap (λ k. take k (range_with_len 0 n)) (end ∙ sym (length-range_with_len 0 n)) ∙ take-length (range_with_len 0 n))
