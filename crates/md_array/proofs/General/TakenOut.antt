-- A list with one element taken out.
use Rattle.std.proofs.Common.{◌≡◌, ℕ, zero, suc, ◌≤◌, Bool, true, false, cond, ◌&&◌, ◌||◌, not, eqb, List, [], ◌∷◌, map, slice_get, count_by, Some, refl, sym, ap, ◌∙◌, arith, eq-eqb, eqb-true, ne_eqb}
use Rattle.std.specs.List.{list_any, remove}
use Rattle.std.proofs.lemmas.Bool.Decides.{nat_tests}
use Rattle.std.proofs.lemmas.List.Sums.{sum_by-cons}
use Rattle.std.proofs.lemmas.Option.{same_Some}
use Rattle.std.proofs.Math.Bool.{and-false}
use Rattle.md_model.specs.Membership.{skip}
use Rattle.md_model.proofs.Steps.Membership.{skip-apart}
use Rattle.md_model.proofs.Puts.{by_same}
use Rattle.md_array.proofs.General.Indices.{at_any}
use Rattle.md_array.proofs.General.Tests.{true_unless_false}

-- ---- by their indices
skip-first : (k : ℕ) → skip (suc k) zero ≡ zero
skip-first k = grind (arith, nat_tests)

skip-none : (j : ℕ) → skip zero j ≡ suc j
skip-none j = grind (arith, nat_tests)

skip-more : (k j : ℕ) → skip (suc k) (suc j) ≡ suc (skip k j)
skip-more k j = grind (arith, nat_tests)

none_left : {X : Type 0} (k : ℕ) → remove {X = X} [] k ≡ []
none_left zero = refl
none_left (suc k) = refl

pub got_left : {X : Type 0} (xs : List X) (k j : ℕ) → slice_get (remove xs k) j ≡ slice_get xs (skip k j)
got_left [] k j = ap (λ xs. slice_get xs j) (none_left k)
got_left (x ∷ xs) zero j = ap (slice_get (x ∷ xs)) (sym (skip-none j))
got_left (x ∷ xs) (suc k) zero = ap (slice_get (x ∷ xs)) (sym (skip-first k))
got_left (x ∷ xs) (suc k) (suc j) = got_left xs k j ∙ ap (slice_get (x ∷ xs)) (sym (skip-more k j))

pub was_at : {X : Type 0} (xs : List X) (k j : ℕ) (x : X) → slice_get (remove xs k) j ≡ Some x → slice_get xs (skip k j) ≡ Some x
was_at xs k j x e = sym (got_left xs k j) ∙ e

pub mapped_left : {X Y : Type 0} (f : X → Y) (xs : List X) (k : ℕ) → map f (remove xs k) ≡ remove (map f xs) k
mapped_left f [] k = ap (map f) (none_left k) ∙ sym (none_left k)
mapped_left f (x ∷ xs) zero = refl
mapped_left f (x ∷ xs) (suc k) = ap (λ ys. f x ∷ ys) (mapped_left f xs k)

-- ---- those that pass a test
pub count_left : {X : Type 0} (p : X → Bool) (xs : List X) (k : ℕ) → count_by p (remove xs k) ≤ count_by p xs
count_left p [] k = omega (arith, ap (count_by p) (none_left k))
count_left p (x ∷ xs) zero = omega (arith, sum_by-cons (λ z. cond (p z) 1 0) x xs)
count_left p (x ∷ xs) (suc k) = omega (arith, sum_by-cons (λ z. cond (p z) 1 0) x xs, sum_by-cons (λ z. cond (p z) 1 0) x (remove xs k), count_left p xs k)

-- where the one that was taken out fails it
pub any_left : {X : Type 0} (p : X → Bool) (xs : List X) (k : ℕ) (x : X) → slice_get xs k ≡ Some x → p x ≡ false → list_any p (remove xs k) ≡ list_any p xs
any_left p [] k x e fails = ap (list_any p) (none_left k)
any_left p (y ∷ xs) zero x e fails = ap (λ b. b || list_any p xs) (sym (ap p (same_Some y x e) ∙ fails))
any_left p (y ∷ xs) (suc k) x e fails = ap (λ b. p y || b) (any_left p xs k x e fails)

-- where each element has a number of its own
module _ {X : Type 0} (number : X → ℕ) (xs : List X) (k : ℕ) (x : X) (at : slice_get xs k ≡ Some x)
    (each : (i j : ℕ) (y z : X) → slice_get xs i ≡ Some y → slice_get xs j ≡ Some z → number y ≡ number z → i ≡ j) where
  gone : (d : ℕ) → number x ≡ d → list_any (λ y. eqb (number y) d) (remove xs k) ≡ false
  gone d here = true_unless_false (list_any (λ y. eqb (number y) d) (remove xs k)) (λ some.
      let y = at_any (λ z. eqb (number z) d) (remove xs k) some in
      skip-apart k y.0 (each (skip k y.0) k y.1 x (was_at xs k y.0 y.1 y.2) at (eqb-true (number y.1) d y.3 ∙ sym here)))

  pub number_left : (d : ℕ) → list_any (λ y. eqb (number y) d) (remove xs k) ≡ (list_any (λ y. eqb (number y) d) xs && not (eqb d (number x)))
  number_left d = by_same d (number x)
      (λ same. gone d (sym same) ∙ sym (ap (λ b. list_any (λ y. eqb (number y) d) xs && not b) (eq-eqb d (number x) same) ∙ and-false (list_any (λ y. eqb (number y) d) xs)))
      (λ apart. any_left (λ y. eqb (number y) d) xs k x at (ne_eqb (number x) d (λ same. apart (sym same)))
      ∙ sym (ap (λ b. list_any (λ y. eqb (number y) d) xs && not b) (ne_eqb d (number x) apart) ∙ and_yes (list_any (λ y. eqb (number y) d) xs)))
    where
      and_yes : (b : Bool) → (b && true) ≡ b
      and_yes true = refl
      and_yes false = refl
