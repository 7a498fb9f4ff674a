-- A function is applied to the elements of a list in turn.
use Rattle.std.proofs.Common.{◌≡◌, ◌∙◌, ℕ, ◌+◌, ◌<◌, ◌≤◌, List, [], ◌∷◌, ◌++◌, length, get_or, zero, suc, take, drop, map, set, append_assoc, ap, sym, refl, arith, append-nil}
use Rattle.std.proofs.lemmas.List.{length-map, drop_all, drop_more, get_or_at, length-take-le, set_at, take_all, take_more}

-- to the first i of them
abbrev pub mapped_to : {A : Type 0} → (A → A) → List A → ℕ → List A
mapped_to f xs i = take i (map f xs) ++ drop i xs

get_or-map : {A : Type 0} (f : A → A) (xs : List A) (i : ℕ) (d : A) → i < length xs → get_or (map f xs) i d ≡ f (get_or xs i d)
get_or-map f [] i d lt = absurd (omega arith)
get_or-map f (x ∷ xs) zero d lt = refl
get_or-map f (x ∷ xs) (suc i) d lt = get_or-map f xs i d (omega arith)

module _ {A : Type 0} (f : A → A) (xs : List A) (i : ℕ) (within : i < length xs) where
  front_long : length (take i (map f xs)) ≡ i
  front_long = length-take-le i (map f xs) (omega (arith, length-map xs f))

  pub mapped_at : (d : A) → get_or (mapped_to f xs i) i d ≡ get_or xs i d
  mapped_at d = rw (drop_more xs i d within) (get_or_at (take i (map f xs)) (get_or xs i d) (drop (i + 1) xs) d i front_long)

  pub mapped_more : (d : A) → set (mapped_to f xs i) i (f (get_or xs i d)) ≡ mapped_to f xs (i + 1)
  mapped_more d =
      ap (λ (ys : List A). set (take i (map f xs) ++ ys) i (f (get_or xs i d))) (drop_more xs i d within)
      ∙ set_at (take i (map f xs)) (get_or xs i d) (drop (i + 1) xs) (f (get_or xs i d)) i front_long
      ∙ sym (ap (λ (ys : List A). ys ++ drop (i + 1) xs) (take_more (map f xs) i d (omega (arith, length-map xs f)) ∙ ap (λ (y : A). take i (map f xs) ++ y ∷ []) (get_or-map f xs i d within))
      ∙ append_assoc (take i (map f xs)) (f (get_or xs i d) ∷ []) (drop (i + 1) xs))

pub mapped_all : {A : Type 0} (f : A → A) (xs : List A) (i : ℕ) → length xs ≤ i → mapped_to f xs i ≡ map f xs
mapped_all f xs i end = ap (λ (ys : List _). take i (map f xs) ++ ys) (drop_all i xs end) ∙ append-nil (take i (map f xs)) ∙ take_all i (map f xs) (omega (arith, length-map xs f))
