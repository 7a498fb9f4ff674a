-- How many members are kept up to date, after a change of one.
use Rattle.std.proofs.Common.{◌≡◌, ℕ, ◌+◌, ◌<◌, ◌≤◌, Bool, true, false, cond, List, [], ◌∷◌, zero, suc, map, set, slice_get, count_by, Some, refl, ap, arith}
use Rattle.std.proofs.lemmas.List.Sums.{sum_by-cons}
use Rattle.std.proofs.lemmas.Option.{same_Some}

abbrev weight : Bool → ℕ
weight b = cond b 1 0

module _ {X : Type 0} (p : X → Bool) where
  of_cons : (x : X) (xs : List X) → count_by p (x ∷ xs) ≡ weight (p x) + count_by p xs
  of_cons x xs = sum_by-cons (λ z. cond (p z) 1 0) x xs

  -- one element is another
  pub count_set : (xs : List X) (k : ℕ) (x y : X) → slice_get xs k ≡ Some x → count_by p (set xs k y) + weight (p x) ≡ count_by p xs + weight (p y)
  count_set [] k x y is = absurd cc
  count_set (z ∷ xs) zero x y is =
      let same : weight (p z) ≡ weight (p x) = ap (λ w. weight (p w)) (same_Some z x is) in
      omega (arith, of_cons y xs, of_cons z xs, same)
  count_set (z ∷ xs) (suc k) x y is = omega (arith, of_cons z (set xs k y), of_cons z xs, count_set xs k x y is)

  -- each is another that passes alike
  pub count_map : (f : X → X) → ((x : X) → p (f x) ≡ p x) → (xs : List X) → count_by p (map f xs) ≡ count_by p xs
  count_map f alike [] = refl
  count_map f alike (x ∷ xs) =
      let same : weight (p (f x)) ≡ weight (p x) = ap weight (alike x) in
      omega (arith, of_cons (f x) (map f xs), of_cons x xs, count_map f alike xs, same)

  pub set_alike : (xs : List X) (k : ℕ) (x y : X) → slice_get xs k ≡ Some x → p y ≡ p x → count_by p (set xs k y) ≤ count_by p xs
  set_alike xs k x y is alike =
      let same : weight (p y) ≡ weight (p x) = ap weight alike in
      omega (arith, count_set xs k x y is, same)

  pub set_fewer : (xs : List X) (k : ℕ) (x y : X) → slice_get xs k ≡ Some x → p x ≡ true → p y ≡ false → count_by p (set xs k y) < count_by p xs
  set_fewer xs k x y is was isnt =
      let a : weight (p x) ≡ 1 = ap weight was in
      let b : weight (p y) ≡ 0 = ap weight isnt in
      omega (arith, count_set xs k x y is, a, b)
