-- Elements of lists by their indices.
use Rattle.std.proofs.Common.{◌≡◌, ◌⊎◌, ℕ, ◌+◌, ◌<◌, zero, suc, List, [], ◌∷◌, ◌++◌, length, Some, refl, arith, inl, inr}
use Rattle.std.specs.List.{slice_get}

-- an element of a list with one more at its end is one of the list, or that one
pub listed_push : {A : Type 0} (xs : List A) (x y : A) (k : ℕ) → slice_get (xs ++ x ∷ []) k ≡ Some y → (slice_get xs k ≡ Some y) ⊎ ((k ≡ length xs) × (x ≡ y))
listed_push [] x y zero e = let same : x ≡ y = cc in inr (refl, same)
listed_push [] x y (suc k) e = absurd cc
listed_push (z ∷ xs) x y zero e = inl e
listed_push (z ∷ xs) x y (suc k) e = elim (listed_push xs x y k e) [
  | inl h ↦ inl h
  | inr h ↦ let at = h.0 in let here : suc k ≡ length (z ∷ xs) = omega arith in inr (here, h.1)
]

-- so is an element of the first n, counted by one more
pub cases_more : (k n : ℕ) → k < n + 1 → (k < n) ⊎ (k ≡ n)
cases_more k n lt = grind arith
