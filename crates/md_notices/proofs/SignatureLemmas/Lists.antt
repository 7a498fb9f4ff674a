-- Tests of each of a list.
use Rattle.std.proofs.Common.{◌≡◌, ℕ, ◌<◌, List, [], ◌∷◌, length, map, get_or, Bool, true, false, ◌||◌, refl, sym, ◌∙◌, ap}
use Rattle.std.specs.List.{list_any, list_all}
use Rattle.std.proofs.lemmas.List.Folds.{list_all_at}

pub list_any_map : {X Y : Type 0} (p : Y → Bool) (f : X → Y) (xs : List X) → list_any (λ x. p (f x)) xs ≡ list_any p (map f xs)
list_any_map p f [] = refl
list_any_map p f (x ∷ xs) = ap (λ b. p (f x) || b) (list_any_map p f xs)

both_true : (a b : Bool) → (a ≡ false → b ≡ false) → b ≡ true → a ≡ true
both_true true b less h = refl
both_true false b less h = absurd (let e : false ≡ true = sym (less refl) ∙ h in cc)

-- a test that all pass, at one of them
pub at_all : {X : Type 0} (p : X → Bool) (xs : List X) (i : ℕ) (d : X) → i < length xs → list_all p xs ≡ true → p (get_or xs i d) ≡ true
at_all p xs i d within all = both_true _ _ (list_all_at p xs i d within) all
