-- Counts of the elements of a list, and the pigeonhole law.
use Rattle.std.proofs.Common.{◌≡◌, ◌∙◌, ℕ, ◌+◌, ◌*◌, ◌<◌, ◌≤◌, zero, suc, Bool, true, false, cond, not, ◌&&◌, eqb, List, [], ◌∷◌, refl, sym, ap, arith, add-one, inl, inr}
use Rattle.std.specs.List.{count_by, AllByRecursion}
use Rattle.std.proofs.lemmas.Bool.{cases_Bool, and_parts, and_from, eqb-true, eqb-false, not-true, false≢true}
use Rattle.std.proofs.lemmas.List.Sums.{sum_by-cons, sum_by-le-sum_by}
use Rattle.md_cert.specs.Sources.{count_below, count_sources}

-- 1 where a test passes
abbrev pub one : Bool → ℕ
one b = cond b 1 0

pub count_cons : {A : Type 0} (p : A → Bool) (x : A) (xs : List A) → count_by p (x ∷ xs) ≡ one (p x) + count_by p xs
count_cons p x xs = sum_by-cons (λ y. cond (p y) 1 0) x xs

one_le : (a b : Bool) → (a ≡ true → b ≡ true) → one a ≤ one b
one_le true true h = omega arith
one_le true false h = absurd (false≢true (h refl))
one_le false b h = omega arith

-- a weaker test counts no less
pub count_le : {A : Type 0} (p q : A → Bool) (xs : List A) → ((x : A) → p x ≡ true → q x ≡ true) → count_by p xs ≤ count_by q xs
count_le p q xs h = sum_by-le-sum_by (λ x. cond (p x) 1 0) (λ x. cond (q x) 1 0) xs (λ x. one_le (p x) (q x) (h x))

one_split : (a b : Bool) → one a ≡ one (a && b) + one (a && not b)
one_split true true = refl
one_split true false = refl
one_split false b = refl

-- a second test parts what a first one counts
pub count_split : {A : Type 0} (p q : A → Bool) (xs : List A) → count_by p xs ≡ count_by (λ x. p x && q x) xs + count_by (λ x. p x && not (q x)) xs
count_split p q [] = refl
count_split p q (x ∷ xs) =
    omega (arith, count_cons p x xs, count_cons (λ x. p x && q x) x xs, count_cons (λ x. p x && not (q x)) x xs, one_split (p x) (q x), count_split p q xs)

pub count_none : {A : Type 0} (p : A → Bool) (xs : List A) → AllByRecursion (λ x. p x ≡ true → ⊥) xs → count_by p xs ≡ 0
count_none p [] none = refl
count_none p (x ∷ xs) none =
    elim (cases_Bool (p x)) [
      | inl holds ↦ absurd (none.0 holds)
      | inr fails ↦ let zero_here : one (p x) ≡ 0 = ap one fails in omega (arith, count_cons p x xs, zero_here, count_none p xs none.1)
    ]

pub weaker : {A : Type 0} (P Q : A → Type 0) (xs : List A) → ((x : A) → P x → Q x) → AllByRecursion P xs → AllByRecursion Q xs
weaker P Q [] h all = tt
weaker P Q (x ∷ xs) h all = (h x all.0, weaker P Q xs h all.1)

pub below_zero : (P : ℕ → Bool) → count_below P 0 ≡ 0
unfolding count_below
below_zero P = refl

pub below_yes : (P : ℕ → Bool) (m : ℕ) → P m ≡ true → count_below P (suc m) ≡ count_below P m + 1
unfolding count_below
below_yes P m e = ap (λ b. cond b (count_below P m + 1) (count_below P m)) e

pub below_no : (P : ℕ → Bool) (m : ℕ) → P m ≡ false → count_below P (suc m) ≡ count_below P m
unfolding count_below
below_no P m e = ap (λ b. cond b (count_below P m + 1) (count_below P m)) e

-- A test counts at most n elements for each number below m that passes P, if f gives each of them such a number, and no
-- number to more than n of them.
pub pigeons : {A : Type 0} (f : A → ℕ) (P : ℕ → Bool) (n m : ℕ) (xs : List A) (p : A → Bool) → AllByRecursion (λ x. p x ≡ true → (f x < m) × (P (f x) ≡ true)) xs → ((s : ℕ) → s < m → count_by (λ x. p x && eqb (f x) s) xs ≤ n) → count_by p xs ≤ n * count_below P m
pigeons f P n zero xs p all few =
    let none : count_by p xs ≡ 0 = count_none p xs (weaker (λ x. p x ≡ true → (f x < zero) × (P (f x) ≡ true)) (λ x. p x ≡ true → ⊥) xs (λ x h holds. let lt : f x < 0 = (h holds).0 in omega arith) all) in
    omega arith
pigeons {A} f P n (suc m) xs p all few =
    let q : A → Bool = λ x. p x && not (eqb (f x) m) in
    let later : AllByRecursion (λ x. q x ≡ true → (f x < m) × (P (f x) ≡ true)) xs =
    weaker (λ x. p x ≡ true → (f x < suc m) × (P (f x) ≡ true)) (λ x. q x ≡ true → (f x < m) × (P (f x) ≡ true)) xs
    (λ x h holds. let both = and_parts (p x) (not (eqb (f x) m)) holds in
    let lt : f x < suc m = (h both.0).0 in
    let other : f x ≡ m → ⊥ = eqb-false (f x) m (not-true (eqb (f x) m) both.1) in
    (omega arith, (h both.0).1)) all in
    let fewer : (s : ℕ) → s < m → count_by (λ x. q x && eqb (f x) s) xs ≤ n =
    λ s below. let le : count_by (λ x. q x && eqb (f x) s) xs ≤ count_by (λ x. p x && eqb (f x) s) xs =
    count_le (λ x. q x && eqb (f x) s) (λ x. p x && eqb (f x) s) xs
    (λ x holds. let both = and_parts (q x) (eqb (f x) s) holds in and_from (p x) (eqb (f x) s) (and_parts (p x) (not (eqb (f x) m)) both.0).0 both.1) in
    let up = few s (omega arith) in omega arith in
    let rest : count_by q xs ≤ n * count_below P m = pigeons f P n m xs q later fewer in
    let parts = count_split p (λ x. eqb (f x) m) xs in
    elim (cases_Bool (P m)) [
      | inl holds ↦
          let here = few m (omega arith) in
          let more = below_yes P m holds in
          rw more (omega (arith, parts, here, rest))
      | inr fails ↦
          let here : count_by (λ x. p x && eqb (f x) m) xs ≡ 0 =
          count_none (λ x. p x && eqb (f x) m) xs (weaker (λ x. p x ≡ true → (f x < suc m) × (P (f x) ≡ true)) (λ x. (p x && eqb (f x) m) ≡ true → ⊥) xs
          (λ x h holds. let both = and_parts (p x) (eqb (f x) m) holds in
          let is : P (f x) ≡ true = (h both.0).1 in
          let same : f x ≡ m = eqb-true (f x) m both.1 in
          false≢true (sym fails ∙ ap P (sym same) ∙ is)) all) in
          let more = below_no P m fails in
          rw more (omega (arith, parts, here, rest))
    ]

pub sources_are : (P : ℕ → Bool) → count_sources P ≡ count_below P 32
unfolding count_sources
sources_are P = refl

-- the count so far, one number on
pub below_next : (P : ℕ → Bool) (m n : ℕ) (b : Bool) → P m ≡ b → n ≡ count_below P m + one b → n ≡ count_below P (m + 1)
below_next P m n true e is = rw add-one (is ∙ sym (below_yes P m e))
below_next P m n false e is = rw add-one (omega (arith, is, below_no P m e))
