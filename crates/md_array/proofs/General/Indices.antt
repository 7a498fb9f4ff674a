-- Lists by their indices.
use Rattle.std.proofs.Common.{◌≡◌, ◌≢◌, ℕ, zero, suc, ◌+◌, ◌<◌, ◌≤◌, Bool, true, false, cond, ◌||◌, List, [], ◌∷◌, length, map, set, slice_get, count_by, Some, option_map, get_or-set_same, length-set, sym, ap, ◌∙◌, refl, arith, Option, None, unwrap_or}
use Rattle.std.specs.List.{list_any, range_with_len}
use Rattle.std.proofs.lemmas.List.Sums.{sum_by-cons}
use Rattle.std.proofs.lemmas.Option.{same_Some, slice_get-get_or, slice_get-map, slice_get_within, none-some}
use Rattle.std.proofs.lemmas.List.FromFn.{get_or-range_with_len, length-range_with_len}
use Rattle.std.proofs.Math.Bool.{or-true}
use Rattle.md_model.specs.Sectors.{put}
use Rattle.md_model.proofs.Puts.{put-at}
use Rattle.md_kept_members.proofs.Members.Counting.{some_counted}
pub use Rattle.md_state.proofs.OneWrite.{at_set_same, got_other}

pub got_in_map : {X Y : Type 0} (f : X → Y) (xs : List X) (k : ℕ) (x : X) → slice_get xs k ≡ Some x → slice_get (map f xs) k ≡ Some (f x)
got_in_map f xs k x e = slice_get-map f xs k ∙ ap (option_map f) e

-- one element passes the test
pub any_at : {X : Type 0} (p : X → Bool) (xs : List X) (k : ℕ) (x : X) → slice_get xs k ≡ Some x → p x ≡ true → list_any p xs ≡ true
any_at p [] k x e t = absurd (none-some x e)
any_at p (y ∷ xs) zero x e t = let same = same_Some y x e in rw (same, t) refl
any_at p (y ∷ xs) (suc k) x e t = rw (any_at p xs k x e t) (or-true (p y))

pub at_any : {X : Type 0} (p : X → Bool) (xs : List X) → list_any p xs ≡ true → (k : ℕ) × (x : X) × (slice_get xs k ≡ Some x) × (p x ≡ true)
at_any p [] e = absurd cc
at_any {X = X} p (y ∷ xs) e =
    let P : Bool → Type 0 = λ b. p y ≡ b → (b || list_any p xs) ≡ true → (k : ℕ) × (x : X) × (slice_get (y ∷ xs) k ≡ Some x) × (p x ≡ true) in
    let both : (b : Bool) → P b = λ b. elim b as P [
      | true ↦ λ here _. (0, y, refl, here)
      | false ↦ λ _ rest. let later = at_any p xs rest in (suc later.0, later.1, later.2, later.3)
    ] in
    both (p y) refl e

count_by-cons : {X : Type 0} (p : X → Bool) (x : X) (xs : List X) → count_by p (x ∷ xs) ≡ cond (p x) 1 0 + count_by p xs
count_by-cons p x xs = sum_by-cons (λ y. cond (p y) 1 0) x xs

hit : (b : Bool) → b ≡ true → 0 < cond b 1 0
hit true e = omega arith
hit false e = absurd cc

-- two elements pass it
pub two_counted : {X : Type 0} (p : X → Bool) (xs : List X) (j k : ℕ) (x y : X) → j < k → slice_get xs j ≡ Some x → slice_get xs k ≡ Some y → p x ≡ true → p y ≡ true → 1 < count_by p xs
two_counted p [] j k x y h e f s t = absurd (none-some x e)
two_counted p (z ∷ xs) zero zero x y h e f s t = absurd (omega arith)
two_counted p (z ∷ xs) zero (suc k) x y h e f s t = omega (arith, count_by-cons p z xs, hit (p z) (ap p (same_Some z x e) ∙ s), some_counted p xs k y f t)
two_counted p (z ∷ xs) (suc j) zero x y h e f s t = absurd (omega arith)
two_counted p (z ∷ xs) (suc j) (suc k) x y h e f s t = omega (arith, count_by-cons p z xs, two_counted p xs j k x y (omega arith) e f s t)

-- ---- a list with one element replaced
pub got_put : {X : Type 0} (xs : List X) (k : ℕ) (y : X) → k < length xs → (j : ℕ) → slice_get (set xs k y) j ≡ put k (Some y) (slice_get xs) j
got_put xs k y within j = put-at k (Some y) (slice_get xs) j (λ z. slice_get (set xs k y) j ≡ z)
    (λ same. ap (slice_get (set xs k y)) same ∙ at_set_same xs k y within)
    (λ apart. got_other xs k j y apart)

-- the new element passes a test as the old one did
pub any_kept : {X : Type 0} (p : X → Bool) (xs : List X) (k : ℕ) (x y : X) → slice_get xs k ≡ Some x → p y ≡ p x → list_any p (set xs k y) ≡ list_any p xs
any_kept p [] k x y e t = refl
any_kept p (z ∷ xs) zero x y e t = ap (λ b. b || list_any p xs) (t ∙ ap p (sym (same_Some z x e)))
any_kept p (z ∷ xs) (suc k) x y e t = ap (λ b. p z || b) (any_kept p xs k x y e t)

pub counted_kept : {X : Type 0} (p : X → Bool) (xs : List X) (k : ℕ) (x y : X) → slice_get xs k ≡ Some x → p y ≡ p x → count_by p (set xs k y) ≡ count_by p xs
counted_kept p [] k x y e t = refl
counted_kept p (z ∷ xs) zero x y e t =
    count_by-cons p y xs ∙ ap (λ b. cond b 1 0 + count_by p xs) (t ∙ ap p (sym (same_Some z x e))) ∙ sym (count_by-cons p z xs)
counted_kept p (z ∷ xs) (suc k) x y e t =
    count_by-cons p z (set xs k y) ∙ ap (λ n. cond (p z) 1 0 + n) (counted_kept p xs k x y e t) ∙ sym (count_by-cons p z xs)

pub set_itself : {X : Type 0} (xs : List X) (k : ℕ) (x : X) → slice_get xs k ≡ Some x → set xs k x ≡ xs
set_itself [] k x e = refl
set_itself (y ∷ xs) zero x e = ap (λ z. z ∷ xs) (sym (same_Some y x e))
set_itself (y ∷ xs) (suc k) x e = ap (λ zs. y ∷ zs) (set_itself xs k x e)

-- ---- a test that passes less
at_most : (a b : Bool) → (a ≡ true → b ≡ true) → cond a 1 0 ≤ cond b 1 0
at_most true b h = rw (h refl) (omega arith)
at_most false b h = omega arith

none_more : {X : Type 0} (p q : X → Bool) (xs : List X) → ((x : X) → q x ≡ true → p x ≡ true) → count_by q xs ≤ count_by p xs
none_more p q [] h = omega arith
none_more p q (y ∷ xs) h = omega (arith, count_by-cons p y xs, count_by-cons q y xs, at_most (q y) (p y) (h y), none_more p q xs h)

missed : (b : Bool) → b ≡ false → cond b 1 0 ≤ 0
missed b e = rw e (omega arith)

-- this element no more passes
pub one_fewer : {X : Type 0} (p q : X → Bool) (xs : List X) (k : ℕ) (x : X) → ((y : X) → q y ≡ true → p y ≡ true) → slice_get xs k ≡ Some x → p x ≡ true → q x ≡ false → count_by q xs + 1 ≤ count_by p xs
one_fewer p q [] k x h e on off = absurd (none-some x e)
one_fewer p q (y ∷ xs) zero x h e on off =
    omega (arith, count_by-cons p y xs, count_by-cons q y xs, hit (p y) (ap p (same_Some y x e) ∙ on), missed (q y) (ap q (same_Some y x e) ∙ off), none_more p q xs h)
one_fewer p q (y ∷ xs) (suc k) x h e on off = omega (arith, count_by-cons p y xs, count_by-cons q y xs, at_most (q y) (p y) (h y), one_fewer p q xs k x h e on off)

pub any_map : {X Y : Type 0} (p : Y → Bool) (f : X → Y) (xs : List X) → list_any p (map f xs) ≡ list_any (λ x. p (f x)) xs
any_map p f [] = refl
any_map p f (x ∷ xs) = ap (λ b. p (f x) || b) (any_map p f xs)

pub count_map : {X Y : Type 0} (p : Y → Bool) (f : X → Y) (xs : List X) → count_by p (map f xs) ≡ count_by (λ x. p (f x)) xs
count_map p f [] = refl
count_map p f (x ∷ xs) = count_by-cons p (f x) (map f xs) ∙ ap (λ n. cond (p (f x)) 1 0 + n) (count_map p f xs) ∙ sym (count_by-cons (λ y. p (f y)) x xs)

-- what is read of an element of a mapped list, if there is one
pub read_map : {X Y Z : Type 0} (f : X → Y) (none : Z) (of : Y → Z) (xs : List X) (k : ℕ)
    → unwrap_or (option_map of (slice_get (map f xs) k)) none ≡ unwrap_or (option_map (λ x. of (f x)) (slice_get xs k)) none
read_map {X} {Y} f none of xs k = ap (λ o. unwrap_or (option_map of o) none) (slice_get-map f xs k) ∙ by (slice_get xs k)
  where
    by : (o : Option X) → unwrap_or (option_map of (option_map f o)) none ≡ unwrap_or (option_map (λ x. of (f x)) o) none
    by None = refl
    by (Some x) = refl

-- an element of a mapped list
pub at_map : {X Y : Type 0} (f : X → Y) (xs : List X) (k : ℕ) (y : Y) → slice_get (map f xs) k ≡ Some y → (x : X) × (slice_get xs k ≡ Some x) × (y ≡ f x)
at_map {X} f xs k y e = by (slice_get xs k) refl
  where
    by : (o : Option X) → slice_get xs k ≡ o → (x : X) × (slice_get xs k ≡ Some x) × (y ≡ f x)
    by None is = absurd (none-some y (sym (slice_get-map f xs k ∙ ap (option_map f) is) ∙ e))
    by (Some x) is = (x, is, same_Some y (f x) (sym e ∙ got_in_map f xs k x is))

-- the numbers from 0 on
pub got_in_range : (n k : ℕ) → k < n → slice_get (range_with_len 0 n) k ≡ Some k
got_in_range n k low =
    slice_get-get_or (range_with_len 0 n) k 0 (let count = length-range_with_len 0 n in omega arith)
    ∙ ap Some (let is = get_or-range_with_len 0 n k 0 low in omega arith)

pub in_range : (n i k : ℕ) → slice_get (range_with_len 0 n) i ≡ Some k → k < n
in_range n i k e =
    let count = length-range_with_len 0 n in
    let within = slice_get_within (range_with_len 0 n) i k e in
    let same = same_Some k i (sym e ∙ got_in_range n i (omega arith)) in
    omega arith
