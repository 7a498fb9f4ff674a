-- The numbers of members: there are no more than members.
use Rattle.std.proofs.Common.{◌≡◌, ℕ, zero, suc, ◌+◌, ◌<◌, ◌≤◌, Bool, true, false, cond, eqb, nat_lt, ◌||◌, true≢false, List, [], ◌∷◌, length, count_by, inl, inr, refl, sym, ap, ◌∙◌, arith}
use Rattle.std.specs.List.{list_any}
use Rattle.std.proofs.lemmas.Bool.{cases_lt}
use Rattle.std.proofs.lemmas.Bool.Decides.{nat_tests}
use Rattle.std.proofs.lemmas.List.Sums.{count_by-le-length, sum_by-cons}
use Rattle.md_model.specs.Membership.{IsLeastNumber}
use Rattle.md_kept_members.specs.View.{MemberView}
use Rattle.md_super.specs.declared.superblock.Superblock.{Superblock}
use Rattle.md_kept_members.specs.Membership.Numbers.{IsNumber, has_number}

-- ---- a list has no more values than elements
module _ {X : Type 0} (f : X → ℕ) where
  abbrev below : ℕ → List X → ℕ
  below k xs = count_by (λ x. nat_lt (f x) k) xs

  abbrev at : ℕ → List X → ℕ
  at k xs = count_by (λ x. eqb (f x) k) xs

  one : (n k m : ℕ) → m ≡ k + 1 → cond (nat_lt n m) 1 0 ≡ cond (nat_lt n k) 1 0 + cond (eqb n k) 1 0
  one n k m next = grind (arith, nat_tests)

  one_more : (k m : ℕ) → m ≡ k + 1 → (xs : List X) → below m xs ≡ below k xs + at k xs
  one_more k m next [] = refl
  one_more k m next (x ∷ xs) = omega (
    arith,
    sum_by-cons (λ y. cond (nat_lt (f y) m) 1 0) x xs,
    sum_by-cons (λ y. cond (nat_lt (f y) k) 1 0) x xs,
    sum_by-cons (λ y. cond (eqb (f y) k) 1 0) x xs,
    one (f x) k m next,
    one_more k m next xs,
  )

  here_or_later : (k : ℕ) (x : X) (xs : List X) (b : Bool) → eqb (f x) k ≡ b → (list_any (λ y. eqb (f y) k) xs ≡ true → 0 < at k xs) → (b || list_any (λ y. eqb (f y) k) xs) ≡ true → 0 < at k (x ∷ xs)
  here_or_later k x xs true here later has = omega (arith, sum_by-cons (λ y. cond (eqb (f y) k) 1 0) x xs, ap {B = ℕ} (λ b. cond b 1 0) here)
  here_or_later k x xs false not_here later has = omega (arith, sum_by-cons (λ y. cond (eqb (f y) k) 1 0) x xs, later has)

  some_at : (k : ℕ) (xs : List X) → list_any (λ x. eqb (f x) k) xs ≡ true → 0 < at k xs
  some_at k [] has = absurd (true≢false (sym has))
  some_at k (x ∷ xs) has = here_or_later k x xs (eqb (f x) k) refl (some_at k xs) has

  all_below : (k : ℕ) (xs : List X) → ((e : ℕ) → e < k → list_any (λ x. eqb (f x) e) xs ≡ true) → k ≤ below k xs
  all_below zero xs has = omega arith
  all_below (suc k) xs has =
      omega (arith, one_more k (suc k) (omega arith) xs, some_at k xs (has k (omega arith)), all_below k xs (λ e low. has e (omega arith)))

  no_more : (k : ℕ) (xs : List X) → ((e : ℕ) → e < k → list_any (λ x. eqb (f x) e) xs ≡ true) → k ≤ length xs
  no_more k xs has = omega (arith, all_below k xs has, count_by-le-length (λ x. nat_lt (f x) k) xs)

abbrev number_of : MemberView → ℕ
number_of m = m.superblock.dev_number

-- so not each number up to that of the members is used
pub one_unused : (members : List MemberView) → ((e : ℕ) → e < length members + 1 → has_number members e ≡ true) → ⊥
one_unused members has = let few = no_more number_of (length members + 1) members has in omega arith

pub is_used : (members : List MemberView) (d : ℕ) → (has_number members d ≡ false → ⊥) → has_number members d ≡ true
is_used members d used = by (has_number members d) refl
  where
    by : (b : Bool) → has_number members d ≡ b → b ≡ true
    by true is = refl
    by false is = absurd (used is)

-- the least that no member has is no more than there are members
pub unused_is_small : (members : List MemberView) (d : ℕ) → IsLeastNumber (λ e. has_number members e ≡ false) d → d ≤ length members
unused_is_small members d least = elim (cases_lt (length members) d) [
  | inl more ↦ absurd (one_unused members (λ e low. is_used members e (λ unused. let small = least.least e unused in absurd (omega arith))))
  | inr few ↦ few
]

-- the number of the members is the least, where all below it are used
pub last_is_least : (members : List MemberView) (n : ℕ) → n ≡ length members → ((e : ℕ) → e < n → has_number members e ≡ true) → IsLeastNumber (λ e. has_number members e ≡ false) n
last_is_least members n many used = record {
  fits = by (has_number members n) refl;
  least = λ e unused. elim (cases_lt e n) [ inl low ↦ absurd (true≢false (sym (used e low) ∙ unused)) | inr more ↦ more ];
}
  where
    by : (b : Bool) → has_number members n ≡ b → b ≡ false
    by false is = refl
    by true is = absurd (one_unused members (λ e low. elim (cases_lt e n) [
      | inl less ↦ used e less
      | inr more ↦ let same : e ≡ n = omega arith in ap (has_number members) same ∙ is
    ]))

-- ---- the number of a new device
module _ (shared : Superblock) (members : List MemberView) (d : ℕ) where
  pub number_is_unused : IsNumber shared members d → has_number members d ≡ false
  number_is_unused (inl free) = free.fits.unused
  number_is_unused (inr least) = least.1.fits

  pub number_is_small : length members < 64 → IsNumber shared members d → d < 1920
  number_is_small room (inl free) = free.fits.room
  number_is_small room (inr least) = let few = unused_is_small members d least.1 in omega arith
