-- Elements of lists by their indices.
use Rattle.std.proofs.Common.{◌≡◌, ℕ, ◌<◌, zero, suc, List, [], ◌∷◌, length, Some, refl, arith}
use Rattle.std.specs.List.{slice_get}

pub got_within : {A : Type 0} (xs : List A) (k : ℕ) → k < length xs → (x : A) × (slice_get xs k ≡ Some x)
got_within [] k lt = absurd (omega arith)
got_within (x ∷ rest) zero lt = (x, refl)
got_within (x ∷ rest) (suc k) lt = got_within rest k (omega arith)

pub got_same : {A : Type 0} (xs : List A) (k : ℕ) (a b : A) → slice_get xs k ≡ Some a → slice_get xs k ≡ Some b → a ≡ b
got_same xs k a b p q = cc
