-- Arrays whose words are all equal.
use Rattle.std.proofs.Common.{◌≡◌, ℕ, ◌<◌, zero, suc, true, eqb, List, [], ◌∷◌, length, get_or, refl, arith}
use Rattle.std.specs.List.{list_all}
use Rattle.std.proofs.lemmas.Bool.{and_parts, eqb-true}

-- each word of such an array is that word
pub same_words : (x : ℕ) (xs : List ℕ) → list_all (λ y. eqb y x) xs ≡ true → (n : ℕ) → n < length xs → get_or xs n 0 ≡ x
same_words x [] all n lt = absurd (omega arith)
same_words x (y ∷ ys) all zero lt = eqb-true y x (and_parts (eqb y x) (list_all (λ z. eqb z x) ys) all).0
same_words x (y ∷ ys) all (suc n) lt = same_words x ys (and_parts (eqb y x) (list_all (λ z. eqb z x) ys) all).1 n (omega arith)

-- an array of zeros reads as 0 everywhere
pub zeros : (xs : List ℕ) → list_all (λ x. eqb x 0) xs ≡ true → (s : ℕ) → get_or xs s 0 ≡ 0
zeros [] all s = refl
zeros (x ∷ xs) all zero = eqb-true x 0 (and_parts (eqb x 0) (list_all (λ y. eqb y 0) xs) all).0
zeros (x ∷ xs) all (suc s) = zeros xs (and_parts (eqb x 0) (list_all (λ y. eqb y 0) xs) all).1 s
