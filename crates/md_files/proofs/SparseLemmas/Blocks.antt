-- Lemmas on a list whose blocks are gone through.
use Rattle.std.proofs.Common.{◌≡◌, ◌∙◌, ◌+◌, ◌-◌, ◌≤◌, ◌++◌, ℕ, List, length, replicate, take, drop, ap, sym, arith, append_assoc}
use Rattle.std.proofs.lemmas.List.{drop-take, take-append-drop, take-take}

joined : (s n : ℕ) (xs : List ℕ) → take s xs ++ take n (drop s xs) ≡ take (s + n) xs
joined s n xs =
    let front : take s (take (s + n) xs) ≡ take s xs = take-take s (s + n) xs (omega arith) in
    let rest : drop s (take (s + n) xs) ≡ take n (drop s xs) = drop-take s n xs in
    let parts : take s (take (s + n) xs) ++ drop s (take (s + n) xs) ≡ take s xs ++ take n (drop s xs) = λ k. front k ++ rest k in
    sym parts ∙ take-append-drop s (take (s + n) xs)

-- what was put out before a part, the part, and a block of zeros after it
pub with_block : (n s at : ℕ) (xs : List ℕ) → s ≤ at → at + n ≤ length xs → take (at + n - at) (drop at xs) ≡ replicate n 0 → take s xs ++ (take (at - s) (drop s xs) ++ replicate n 0) ≡ take (at + n) xs
with_block n s at xs before within zero =
    let wide : at + n - at ≡ n = omega arith in
    let block : take n (drop at xs) ≡ replicate n 0 = ap (λ (m : ℕ). take m (drop at xs)) (sym wide) ∙ zero in
    let there : s + (at - s) ≡ at = omega arith in
    let front : take s xs ++ take (at - s) (drop s xs) ≡ take at xs = joined s (at - s) xs ∙ ap (λ (m : ℕ). take m xs) there in
    sym (append_assoc (take s xs) (take (at - s) (drop s xs)) (replicate n 0))
    ∙ ap (λ (t : List ℕ). t ++ replicate n 0) front
    ∙ ap (λ (t : List ℕ). take at xs ++ t) (sym block)
    ∙ joined at n xs
