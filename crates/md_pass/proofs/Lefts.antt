-- How many of a queue's chunks were not copied.
use Rattle.std.proofs.Common.{◌≡◌, ℕ, suc, zero, ◌+◌, ◌<◌, Bool, true, false, [], ◌∷◌, List, length, map, filter, take, count_by, get_or, slice_index, cond, refl, ap, ◌∙◌, arith}
use Rattle.std.proofs.lemmas.List.Sums.{sum_by-cons, sum_by_more}
use Rattle.std.proofs.lemmas.List.Sorted.{sum_by-IsPermutation}
use Rattle.md_cert.specs.declared.slots.Slot.{Slot}
use Rattle.md_bitmap.specs.Marks.{Bitmap}
use Rattle.md_pass.specs.Passes.{count_left, is_left}
use Rattle.md_pass.specs.Readings.{IsOrderOf, is_of}
use Rattle.md_pass.specs.Copied.{failed_slots, is_failed_slot}

-- two tests that agree on the first n
pub same_counts : {X : Type 0} (p q : X → Bool) (xs : List X) (n : ℕ) → ((j : ℕ) (d : X) → j < n → j < length xs → p (get_or xs j d) ≡ q (get_or xs j d)) → count_by p (take n xs) ≡ count_by q (take n xs)
same_counts p q xs zero same = refl
same_counts p q [] (suc n) same = refl
same_counts p q (x ∷ xs) (suc n) same =
    let rest = same_counts p q xs n (λ j d below within. same (suc j) d (omega (arith, below)) (omega (arith, within))) in
    let first : ◌≡◌ {A = ℕ} (cond (p x) 1 0) (cond (q x) 1 0) = ap (λ (b : Bool). cond b 1 0) (same 0 x (omega arith) (omega arith)) in
    sum_by-cons (λ y. cond (p y) 1 0) x (take n xs) ∙ (let b = sum_by-cons (λ y. cond (q y) 1 0) x (take n xs) in omega (arith, rest, first, b))

-- a chunk more
pub count_more : (copied : Bitmap) (chunks : List ℕ) (n : ℕ) → n < length chunks → count_left copied chunks (n + 1) ≡ count_left copied chunks n + cond (is_left copied (slice_index chunks n)) 1 0
count_more copied chunks n below = sum_by_more (λ c. cond (is_left copied c) 1 0) chunks n 0 below

-- the same, in two orders of testing
both_more : (p q : Slot → Bool) (x : Slot) (xs : List Slot) (a b : Bool) → p x ≡ a → q x ≡ b → count_by p (filter q xs) ≡ count_by q (filter p xs) → count_by p (filter q (x ∷ xs)) ≡ count_by q (filter p (x ∷ xs))
both_more p q x xs true true e f rest = rw (e, f) (let a = sum_by-cons (λ y. cond (p y) 1 0) x (filter q xs) in let b = sum_by-cons (λ y. cond (q y) 1 0) x (filter p xs) in let c : ◌≡◌ {A = ℕ} (cond (p x) 1 0) 1 = rw e refl in let d : ◌≡◌ {A = ℕ} (cond (q x) 1 0) 1 = rw f refl in omega (arith, rest, a, b, c, d))
both_more p q x xs true false e f rest = rw (e, f) (let b = sum_by-cons (λ y. cond (q y) 1 0) x (filter p xs) in let d : ◌≡◌ {A = ℕ} (cond (q x) 1 0) 0 = rw f refl in omega (arith, rest, b, d))
both_more p q x xs false true e f rest = rw (e, f) (let a = sum_by-cons (λ y. cond (p y) 1 0) x (filter q xs) in let c : ◌≡◌ {A = ℕ} (cond (p x) 1 0) 0 = rw e refl in omega (arith, rest, a, c))
both_more p q x xs false false e f rest = rw (e, f) rest

both_filters : (p q : Slot → Bool) (xs : List Slot) → count_by p (filter q xs) ≡ count_by q (filter p xs)
both_filters p q [] = refl
both_filters p q (x ∷ xs) = both_more p q x xs (p x) (q x) refl refl (both_filters p q xs)

-- of the chunks that slots have
of_slots : (copied : Bitmap) (xs : List Slot) → count_by (is_left copied) (map (λ (s : Slot). s.chunk) xs) ≡ count_by (is_failed_slot copied) xs
of_slots copied [] = refl
of_slots copied (x ∷ xs) = let rest = of_slots copied xs in sum_by-cons (λ c. cond (is_left copied c) 1 0) x.chunk (map (λ (s : Slot). s.chunk) xs) ∙ (let b = sum_by-cons (λ (s : Slot). cond (is_failed_slot copied s) 1 0) x xs in omega (arith, rest, b))

-- of all chunks that a source reads, as many as it has slots that failed
pub order_left : (copied : Bitmap) (slots : List Slot) (role : ℕ) (chunks : List ℕ) → IsOrderOf slots role chunks → count_by (is_left copied) chunks ≡ count_by (is_of role) (failed_slots slots copied)
order_left copied slots role chunks is =
    ap (count_by (is_left copied)) is.chunks_are ∙ of_slots copied is.own ∙ sum_by-IsPermutation (λ (s : Slot). cond (is_failed_slot copied s) 1 0) (filter (is_of role) slots) is.own is.reordered
    ∙ both_filters (is_failed_slot copied) (is_of role) slots
