-- Facts of members by their indices.
use Rattle.std.proofs.Common.{◌≡◌, ◌∙◌, ℕ, ◌+◌, ◌<◌, ◌≤◌, Bool, true, false, cond, not, nat_lt, eqb, List, [], ◌∷◌, length, take, zero, suc, get_or, Option, Some, None, is_some, below_more, subst, ap, sym, refl, arith, inl, inr}
use Rattle.std.specs.List.{position, position_or_len, slice_get}
use Rattle.std.proofs.lemmas.Bool.{cases_lt, eqb-true, eqb-false, ltb-false}
use Rattle.std.proofs.lemmas.List.{get_or-take, length-take-le}
use Rattle.std.proofs.lemmas.List.Quantifiers.{position-Some}
use Rattle.std.proofs.lemmas.Option.{get_or_from_slice_get, slice_get-get_or, slice_get_read, slice_get_within}
use Rattle.md_members.specs.declared.info.MemberInfo.{MemberInfo}
use Rattle.md_assembly.specs.Faults.{HasSameNumber, RepeatsNumber}
use Rattle.md_assembly.specs.Listed.{IsLeast, MemberAt, PairAt}

pub not_at : (Fact : MemberInfo → Type 0) (members : List MemberInfo) (i : ℕ) (m : MemberInfo) → slice_get members i ≡ Some m → (Fact m → ⊥) → MemberAt Fact members i → ⊥
not_at Fact members i m listed other p = let same : p.member ≡ m = cc in other (subst Fact same p.holds)

pub not_pair : (Related : MemberInfo → MemberInfo → Type 0) (members : List MemberInfo) (i j : ℕ) (a b : MemberInfo) → slice_get members i ≡ Some a → slice_get members j ≡ Some b → (Related a b → ⊥) → PairAt Related members i j → ⊥
not_pair Related members i j a b at_i at_j other = not_at (λ x. MemberAt (Related x) members j) members i a at_i (not_at (Related a) members j b at_j other)

pub pair_at : (Related : MemberInfo → MemberInfo → Type 0) (members : List MemberInfo) (i j : ℕ) (a b : MemberInfo) → slice_get members i ≡ Some a → slice_get members j ≡ Some b → Related a b → PairAt Related members i j
pair_at Related members i j a b at_i at_j related = record { member = a; listed = at_i; holds = record { member = b; listed = at_j; holds = related } }

pub none_by : {A : Type 0} (o : Option A) → is_some o ≡ false → o ≡ None
none_by None e = refl
none_by (Some x) e = absurd cc

pub some_by : {A : Type 0} (o : Option A) → is_some o ≡ true → o ≡ None → ⊥
some_by None e = λ none. absurd cc
some_by (Some x) e = λ none. absurd cc

-- the first number found is the least
pub least_by : (Fact : ℕ → Type 0) (n : ℕ) → Fact n → ((k : ℕ) → k < n → Fact k → ⊥) → IsLeast Fact n
least_by Fact n holds none = record {
  holds = holds;
  least = λ k h. elim (cases_lt k n) [ inl less ↦ absurd (none k less h) | inr more ↦ more ];
}

same_member : (members : List MemberInfo) (i : ℕ) (a b : MemberInfo) → slice_get members i ≡ Some a → slice_get members i ≡ Some b → a ≡ b
same_member members i a b p q = cc

-- a member that was read by its index
pub read_at : (members : List MemberInfo) (i : ℕ) (m : MemberInfo) → i < length members → m ≡ get_or members i m → slice_get members i ≡ Some m
read_at members i m within e = slice_get_read members (length members) i m refl within e

pub at_within : (Fact : MemberInfo → Type 0) (members : List MemberInfo) (i : ℕ) → MemberAt Fact members i → i < length members
at_within Fact members i p = slice_get_within members i p.member p.listed

pub pair_within : (Related : MemberInfo → MemberInfo → Type 0) (members : List MemberInfo) (i j : ℕ) → PairAt Related members i j → j < length members
pair_within Related members i j p = at_within (Related p.member) members j p.holds

-- a loop that compares each member with the first finds one in the relation, goes past one that is not, or finds none
module _ (Related : MemberInfo → MemberInfo → Type 0) (members : List MemberInfo) (i : ℕ) (none : (k : ℕ) → k < i → PairAt Related members 0 k → ⊥) where
  pub first_related : (first m : MemberInfo) → i < length members → first ≡ get_or members 0 first → m ≡ get_or members i m → Related first m → IsLeast (PairAt Related members 0) i
  first_related first m within at_0 at_i related =
      least_by (PairAt Related members 0) i (pair_at Related members 0 i first m (read_at members 0 first (omega arith) at_0) (read_at members i m within at_i) related) none

  pub still_none : (first m : MemberInfo) → i < length members → first ≡ get_or members 0 first → m ≡ get_or members i m → (Related first m → false ≡ true) → (k : ℕ) → k < i + 1 → PairAt Related members 0 k → ⊥
  still_none first m within at_0 at_i other =
      below_more _ _ none (not_pair Related members 0 i first m (read_at members 0 first (omega arith) at_0) (read_at members i m within at_i) (λ related. let impossible = other related in absurd cc))

  pub none_related : length members ≤ i → (k : ℕ) → PairAt Related members 0 k → ⊥
  none_related all k pair = let within : k < length members = pair_within Related members 0 k pair in none k (omega arith) pair

none_found : (a b : ℕ) → cond (nat_lt a b) (Some a) None ≡ None → b ≤ a
none_found a b e =
    let P : Bool → Type 0 = λ t. nat_lt a b ≡ t → cond t (Some a) None ≡ None → b ≤ a in
    let both : (t : Bool) → P t = λ t. elim t as P [ true ↦ λ same found. absurd cc | false ↦ λ same found. ltb-false a b same ] in
    both (nat_lt a b) refl e

here_or_later : (p : MemberInfo → Bool) (x : MemberInfo) (rest : List MemberInfo) (k : ℕ) (d : MemberInfo) → p x ≡ false → ((i : ℕ) (y : MemberInfo) → i < length rest → p (get_or rest i y) ≡ false) → k < length (x ∷ rest) → p (get_or (x ∷ rest) k d) ≡ false
here_or_later p x rest zero d here later lt = here
here_or_later p x rest (suc k) d here later lt = later k d (omega arith)

-- no element before the first that passes does; where none passes, that is all
unpassed : (p : MemberInfo → Bool) (xs : List MemberInfo) → length xs ≤ position_or_len p xs → (k : ℕ) (d : MemberInfo) → k < length xs → p (get_or xs k d) ≡ false
unpassed p [] all k d lt = absurd (omega arith)
unpassed p (x ∷ rest) all k d lt =
    let P : Bool → Type 0 = λ b. p x ≡ b → length (x ∷ rest) ≤ cond (not b) (1 + position_or_len p rest) 0 → p (get_or (x ∷ rest) k d) ≡ false in
    let both : (b : Bool) → P b = λ b. elim b as P [
      | true ↦ λ e more. absurd (omega arith)
      | false ↦ λ e more. here_or_later p x rest k d e (unpassed p rest (omega arith)) lt
    ] in
    both (p x) refl all

pub missed : (p : MemberInfo → Bool) (xs : List MemberInfo) (o : Option ℕ) → o ≡ position p xs → o ≡ None → (k : ℕ) (d : MemberInfo) → k < length xs → p (get_or xs k d) ≡ false
missed p xs o e none = unpassed p xs (none_found (position_or_len p xs) (length xs) (sym e ∙ none))

-- an earlier member with the number of the member at j, found in the list up to j
pub earlier_found : (members : List MemberInfo) (i j : ℕ) (m : MemberInfo) (o : Option ℕ) → slice_get members j ≡ Some m → o ≡ position (λ x. eqb x.superblock.dev_number m.superblock.dev_number) (take j members) → o ≡ Some i → (i < j) × PairAt HasSameNumber members i j
earlier_found members i j m o listed e found =
    let p : MemberInfo → Bool = λ x. eqb x.superblock.dev_number m.superblock.dev_number in
    let at = position-Some p (take j members) i m (sym e ∙ found) in
    let within : j < length members = slice_get_within members j m listed in
    let short : length (take j members) ≡ j = length-take-le j members (omega arith) in
    let before : i < j = omega arith in
    let same : get_or (take j members) i m ≡ get_or members i m = get_or-take j members i m before in
    let number : p (get_or members i m) ≡ true = ap p (sym same) ∙ at.1 in
    (before, pair_at HasSameNumber members i j (get_or members i m) m (slice_get-get_or members i m (omega arith)) listed (eqb-true _ _ number))

pub earlier_missed : (members : List MemberInfo) (j : ℕ) (m : MemberInfo) (o : Option ℕ) → slice_get members j ≡ Some m → o ≡ position (λ x. eqb x.superblock.dev_number m.superblock.dev_number) (take j members) → o ≡ None → RepeatsNumber members j → ⊥
earlier_missed members j m o listed e none repeats =
    let p : MemberInfo → Bool = λ x. eqb x.superblock.dev_number m.superblock.dev_number in
    let i = repeats.0 in
    let a = repeats.2.member in
    let within : j < length members = slice_get_within members j m listed in
    let short : length (take j members) ≡ j = length-take-le j members (omega arith) in
    let before : i < j = repeats.1 in
    let other : p (get_or (take j members) i m) ≡ false = missed p (take j members) o e none i m (omega arith) in
    let there : get_or members i m ≡ a = get_or_from_slice_get members i a m repeats.2.listed in
    let is_a : get_or (take j members) i m ≡ a = get_or-take j members i m before ∙ there in
    let is_m : repeats.2.holds.member ≡ m = same_member members j _ _ repeats.2.holds.listed listed in
    let number : a.superblock.dev_number ≡ m.superblock.dev_number = repeats.2.holds.holds ∙ ap (λ (x : MemberInfo). x.superblock.dev_number) is_m in
    eqb-false a.superblock.dev_number m.superblock.dev_number (ap p (sym is_a) ∙ other) number
