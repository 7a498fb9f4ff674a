-- How many chunks are marked, once one more is.
use Rattle.std.proofs.Common.{◌≡◌, ℕ, zero, suc, ◌+◌, ◌<◌, ◌≤◌, ◌==◌, ◌||◌, true, false, List, inl, inr, refl, ap, sym, ◌∙◌, eq-eqb, arith}
use Rattle.std.proofs.lemmas.Bool.{ne_eqb}
use Rattle.std.proofs.Math.Nat.{eq-or-lt_of_le}
use Rattle.md_bitmap.specs.Marks.{is_set, count_set}
use Rattle.md_bitmap.proofs.Bits.{count_set-suc, count_set-zero}

-- no bit is set
pub count_set-none : (xs : List ℕ) (n : ℕ) → ((i : ℕ) → is_set xs i ≡ false) → count_set xs n ≡ 0
count_set-none xs zero none = count_set-zero xs
count_set-none xs (suc n) none = count_set-suc xs n ∙ rw (none n, count_set-none xs n none) refl

count_set-same : (xs ys : List ℕ) (n : ℕ) → ((i : ℕ) → i < n → is_set ys i ≡ is_set xs i) → count_set ys n ≡ count_set xs n
count_set-same xs ys zero same = count_set-zero ys ∙ sym (count_set-zero xs)
count_set-same xs ys (suc n) same =
    let below = count_set-same xs ys n (λ i less. same i (omega arith)) in
    let last : is_set ys n ≡ is_set xs n = same n (omega arith) in
    count_set-suc ys n ∙ rw (last, below) refl ∙ sym (count_set-suc xs n)

-- one bit more is set
pub count_set-more : (xs ys : List ℕ) (c n : ℕ) → c < n → is_set xs c ≡ false → ((i : ℕ) → is_set ys i ≡ (i == c || is_set xs i)) → count_set ys n ≡ count_set xs n + 1
count_set-more xs ys c zero less unset more = absurd (omega arith)
count_set-more xs ys c (suc n) less unset more =
    let up = count_set-suc ys n in
    let old = count_set-suc xs n in
    let le : c < n + 1 = omega arith in
    elim (eq-or-lt_of_le (below c n less)) [
      | inl same ↦
          let rest = count_set-same xs ys n (λ i under. more i ∙ ap (λ b. b || is_set xs i) (ne_eqb i c (λ e. absurd (omega arith)))) in
          let here : is_set ys n ≡ true = more n ∙ ap (λ b. b || is_set xs n) (eq-eqb n c (sym same)) in
          let was : is_set xs n ≡ false = ap (is_set xs) (sym same) ∙ unset in
          let up1 = rw here at up in
          let old1 = rw was at old in
          omega (arith, up1, old1, rest)
      | inr under ↦
          let rest = count_set-more xs ys c n under unset more in
          let here : is_set ys n ≡ is_set xs n = more n ∙ ap (λ b. b || is_set xs n) (ne_eqb n c (λ e. absurd (omega arith))) in
          let up1 = rw here at up in
          omega (arith, up1, old, rest)
    ]
  where
    below : (a b : ℕ) → a < suc b → a ≤ b
    below a b h = omega arith
