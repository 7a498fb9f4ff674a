-- A list with one element replaced.
use Rattle.std.proofs.Common.{◌≡◌, ◌≢◌, ℕ, zero, suc, ◌<◌, ◌≤◌, eqb, Bool, true, false, cond, List, [], ◌∷◌, length, length-set, set, slice_get, count_by, Option, Some, refl, sym, ap, ◌∙◌, arith}
use Rattle.std.proofs.lemmas.List.Sums.{sum_by-cons}
use Rattle.std.proofs.lemmas.Option.{same_Some, slice_get_within}
use Rattle.md_model.specs.Sectors.{put}
use Rattle.md_model.proofs.Puts.{by_same, put-same}
use Rattle.md_array.proofs.General.Indices.{at_set_same, got_other, got_put}

-- what is read of an element
read_put : {X Y : Type 0} (f : X → Y) (b : Bool) (y x : X) → f (cond b y x) ≡ cond b (f y) (f x)
read_put f true y x = refl
read_put f false y x = refl

pub read_changed : {X Y : Type 0} (f : Option X → Y) (xs : List X) (k : ℕ) (x y : X) → slice_get xs k ≡ Some x
    → (j : ℕ) → f (slice_get (set xs k y) j) ≡ put k (f (Some y)) (λ i. f (slice_get xs i)) j
read_changed f xs k x y is j = ap f (got_put xs k y (slice_get_within xs k x is) j) ∙ read_put f (eqb j k) (Some y) (slice_get xs j)

pub read_kept : {X Y : Type 0} (f : Option X → Y) (xs : List X) (k : ℕ) (x y : X) → slice_get xs k ≡ Some x → f (Some y) ≡ f (Some x)
    → (j : ℕ) → f (slice_get (set xs k y) j) ≡ f (slice_get xs j)
read_kept f xs k x y is e j = ap f (got_put xs k y (slice_get_within xs k x is) j) ∙ put-same f k (Some y) (slice_get xs) j (e ∙ sym (ap f is))

-- an element is the new one, or was there
pub of_set : {X : Type 0} {P : Type 0} (xs : List X) (k j : ℕ) (y z : X) → slice_get (set xs k y) j ≡ Some z → (j ≡ k → z ≡ y → P) → (j ≢ k → slice_get xs j ≡ Some z → P) → P
of_set xs k j y z is here there = by_same j k
    (λ same.
    let found : slice_get (set xs k y) k ≡ Some z = ap (slice_get (set xs k y)) (sym same) ∙ is in
    let low : k < length xs = omega (arith, length-set xs k y, slice_get_within (set xs k y) k z found) in
    here same (same_Some z y (sym found ∙ at_set_same xs k y low)))
    (λ apart. there apart (sym (got_other xs k j y apart) ∙ is))

miss : (b : Bool) → b ≡ false → cond b 1 0 < 1
miss true e = absurd cc
miss false e = omega arith

-- the new one fails a test
pub count_lower : {X : Type 0} (p : X → Bool) (xs : List X) (k : ℕ) (y : X) → p y ≡ false → count_by p (set xs k y) ≤ count_by p xs
count_lower p [] k y e = omega arith
count_lower p (x ∷ xs) zero y e = omega (arith, sum_by-cons (λ z. cond (p z) 1 0) y xs, sum_by-cons (λ z. cond (p z) 1 0) x xs, miss (p y) e)
count_lower p (x ∷ xs) (suc k) y e = omega (arith, sum_by-cons (λ z. cond (p z) 1 0) x (set xs k y), sum_by-cons (λ z. cond (p z) 1 0) x xs, count_lower p xs k y e)
