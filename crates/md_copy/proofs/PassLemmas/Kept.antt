-- What stands in a list.
use Rattle.std.proofs.Common.{◌≡◌, ℕ, suc, zero, ◌==◌, ◌⊎◌, inl, inr, ◌∷◌, [], false, List, map, Contains, refl, ap, arith}
use Rattle.std.proofs.lemmas.Bool.{cases_Bool, eqb-true, eq-eqb, both_ways}

-- an element of a list with a function of each
pub mapped : {X Y : Type 0} (f : X → Y) (xs : List X) (x : X) → Contains xs x → Contains (map f xs) (f x)
mapped f [] x (k, below, is) = absurd (omega (arith, below))
mapped f (y ∷ ys) x (zero, below, is) = (0, omega arith, ap f is)
mapped f (y ∷ ys) x (suc k, below, is) = let (j, w, e) = mapped f ys x (k, omega (arith, below), is) in (suc j, omega (arith, w), e)

-- and where it comes from
pub record From {X Y : Type 0} (f : X → Y) (xs : List X) (y : Y) : Type 0 where
  pub x : X
  pub there : Contains xs x
  pub is : f x ≡ y

pub mapped_from : {X Y : Type 0} (f : X → Y) (xs : List X) (y : Y) → Contains (map f xs) y → From f xs y
mapped_from f [] y (k, below, is) = absurd (omega (arith, below))
mapped_from f (x ∷ xs) y (zero, below, is) = record { x = x; there = (0, omega arith, refl); is = is }
mapped_from f (x ∷ xs) y (suc k, below, is) =
    let from = mapped_from f xs y (k, omega (arith, below), is) in
    let (j, w, e) = from.there in
    record { x = from.x; there = (suc j, omega (arith, w), e); is = from.is }

-- a number stands in a list, or does not
pub in_or_not : (xs : List ℕ) (c : ℕ) → Contains xs c ⊎ (Contains xs c → ⊥)
in_or_not [] c = inr (λ (k, below, is). absurd (omega (arith, below)))
in_or_not (x ∷ xs) c =
    elim (cases_Bool (x == c)) [
      | inl same ↦ inl (0, omega arith, eqb-true x c same)
      | inr other ↦
          elim (in_or_not xs c) [
            | inl there ↦ let (k, below, is) = there in inl (suc k, omega (arith, below), is)
            | inr none ↦ inr (λ there. not_there x xs c other none there)
          ]
    ]
  where
    not_there : (x : ℕ) (xs : List ℕ) (c : ℕ) → (x == c) ≡ false → (Contains xs c → ⊥) → Contains (x ∷ xs) c → ⊥
    not_there x xs c other none (zero, below, is) = both_ways (x == c) other (eq-eqb x c is)
    not_there x xs c other none (suc k, below, is) = none (k, omega (arith, below), is)
