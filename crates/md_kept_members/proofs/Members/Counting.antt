-- At most one element of a list passes a test where it counts at most one.
use Rattle.std.proofs.Common.{◌≡◌, ◌↔◌, ◌∙◌, ℕ, ◌+◌, ◌<◌, ◌≤◌, zero, suc, Bool, true, false, cond, nat_le, List, [], ◌∷◌, Some, ap, sym, refl, arith, inl, inr}
use Rattle.std.specs.List.{count_by, slice_get}
use Rattle.std.proofs.lemmas.Bool.{cases_Bool, cases_lt, le-leb, leb-true}
use Rattle.std.proofs.lemmas.List.Sums.{sum_by-cons}

-- two that pass are one
abbrev pub OnePasses : {A : Type 0} → (A → Bool) → List A → Type 0
OnePasses {A} p xs = (j k : ℕ) (m n : A) → slice_get xs j ≡ Some m → p m ≡ true → slice_get xs k ≡ Some n → p n ≡ true → j ≡ k

count_yes : {A : Type 0} (p : A → Bool) (x : A) (xs : List A) → p x ≡ true → count_by p (x ∷ xs) ≡ 1 + count_by p xs
count_yes p x xs e = sum_by-cons (λ y. cond (p y) 1 0) x xs ∙ ap (λ (b : Bool). cond b 1 0 + count_by p xs) e

count_no : {A : Type 0} (p : A → Bool) (x : A) (xs : List A) → p x ≡ false → count_by p (x ∷ xs) ≡ 0 + count_by p xs
count_no p x xs e = sum_by-cons (λ y. cond (p y) 1 0) x xs ∙ ap (λ (b : Bool). cond b 1 0 + count_by p xs) e

pub some_counted : {A : Type 0} (p : A → Bool) (xs : List A) (k : ℕ) (x : A) → slice_get xs k ≡ Some x → p x ≡ true → 0 < count_by p xs
some_counted p [] k x e passes = absurd cc
some_counted p (y ∷ xs) zero x e passes = let same : y ≡ x = cc in let count = count_yes p y xs (ap p same ∙ passes) in omega arith
some_counted p (y ∷ xs) (suc k) x e passes =
    let rest = some_counted p xs k x e passes in
    elim (cases_Bool (p y)) [
      | inl pass ↦ let count = count_yes p y xs pass in omega arith
      | inr fail ↦ let count = count_no p y xs fail in omega arith
    ]

pub one_by_count : {A : Type 0} (p : A → Bool) (xs : List A) → count_by p xs ≤ 1 → OnePasses p xs
one_by_count p [] few j k m n at_j yes_m at_k yes_n = absurd cc
one_by_count p (x ∷ xs) few zero zero m n at_j yes_m at_k yes_n = refl
one_by_count p (x ∷ xs) few zero (suc k) m n at_j yes_m at_k yes_n =
    let same : x ≡ m = cc in
    let count = count_yes p x xs (ap p same ∙ yes_m) in
    let more = some_counted p xs k n at_k yes_n in
    absurd (omega arith)
one_by_count p (x ∷ xs) few (suc j) zero m n at_j yes_m at_k yes_n =
    let same : x ≡ n = cc in
    let count = count_yes p x xs (ap p same ∙ yes_n) in
    let more = some_counted p xs j m at_j yes_m in
    absurd (omega arith)
one_by_count p (x ∷ xs) few (suc j) (suc k) m n at_j yes_m at_k yes_n =
    let fewer : count_by p xs ≤ 1 = elim (cases_Bool (p x)) [
      | inl pass ↦ let count = count_yes p x xs pass in omega arith
      | inr fail ↦ let count = count_no p x xs fail in omega arith
    ] in
    ap suc (one_by_count p xs fewer j k m n at_j yes_m at_k yes_n)

some_by_count : {A : Type 0} (p : A → Bool) (xs : List A) → 0 < count_by p xs → (k : ℕ) × (x : A) × (slice_get xs k ≡ Some x) × (p x ≡ true)
some_by_count p [] some = absurd (omega arith)
some_by_count p (x ∷ xs) some = elim (cases_Bool (p x)) [
  | inl pass ↦ (0, x, refl, pass)
  | inr fail ↦ let count = count_no p x xs fail in let rest = some_by_count p xs (omega arith) in (suc rest.0, rest.1, rest.2, rest.3)
]

pub count_by_one : {A : Type 0} (p : A → Bool) (xs : List A) → OnePasses p xs → count_by p xs ≤ 1
count_by_one p [] one = omega arith
count_by_one p (x ∷ xs) one = elim (cases_Bool (p x)) [
  | inl pass ↦
      let count = count_yes p x xs pass in
      elim (cases_lt 0 (count_by p xs)) [
        | inl some ↦ let there = some_by_count p xs some in let same = one 0 (suc there.0) x there.1 refl pass there.2 there.3 in absurd (omega arith)
        | inr none ↦ omega arith
      ]
  | inr fail ↦
      let count = count_no p x xs fail in
      let rest = count_by_one p xs (λ j k m n at_j yes_m at_k yes_n. let same = one (suc j) (suc k) m n at_j yes_m at_k yes_n in omega arith) in
      omega arith
]

-- a count of at most one, as a test
pub one_iff : {A : Type 0} (p : A → Bool) (xs : List A) (b : Bool) → b ≡ nat_le (count_by p xs) 1 → (b ≡ true) ↔ OnePasses p xs
one_iff p xs b e = (λ t. one_by_count p xs (leb-true _ _ (sym e ∙ t)), λ one. e ∙ le-leb _ _ (count_by_one p xs one))
