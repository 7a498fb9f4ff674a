-- The chunks that no member in sync gives whole, chunk by chunk, member by member and run by run.
use Rattle.std.proofs.Common.{◌≡◌, ◌∙◌, ◌↔◌, ℕ, zero, suc, ◌+◌, ◌^◌, ◌<◌, ◌≤◌, ◌⊎◌, inl, inr, Bool, true, false, true≢false, ◌&&◌, ◌||◌, cond, nat_lt, List, [], ◌∷◌, ◌++◌, Option, Some, append-nil, arith, refl, sym, ap, length, length-append, slice_get, take, get_or, ltb-true, lt-ltb}
use Rattle.std.specs.List.{filter, list_all, range_with_len}
use Rattle.std.specs.Option.{option_or}
use Rattle.std.proofs.lemmas.Bool.{and_from, and_parts, cases_lt, or_left, or_right}
use Rattle.std.proofs.lemmas.List.Elements.{filter-append}
use Rattle.std.proofs.lemmas.List.Folds.{list_all_at, list_all_more}
use Rattle.std.proofs.lemmas.Option.{get_or_from_slice_get}
use Rattle.md_badblocks.specs.declared.run.Run.{Run}
use Rattle.md_badblocks.specs.Runs.{IsBad, LiesIn, RisesFrom}
use Rattle.md_kept_members.specs.View.{MemberView}
use Rattle.md_state.specs.View.{ArrayView}
use Rattle.md_notices.specs.UngivenChunks.{is_ungiven, lists_between, ungiven_below}
use Rattle.md_notices.proofs.Members.{there}

-- ---- one chunk more
range_next : (a n : ℕ) → range_with_len a (n + 1) ≡ range_with_len a n ++ ((a + n) ∷ [])
range_next a zero =
    let same : a + 0 ≡ a = omega arith in
    rw same refl
range_next a (suc n) =
    let same : a + 1 + n ≡ a + suc n = omega arith in
    let one : suc n + 1 ≡ suc (n + 1) = omega arith in
    rw one (ap (λ (xs : List ℕ). a ∷ xs) (rw same at (range_next (a + 1) n)))

next : (a : ArrayView) (m : MemberView) (n : ℕ) → ungiven_below a m (n + 1) ≡ ungiven_below a m n ++ cond (is_ungiven a m n) (n ∷ []) []
next a m n =
    let same : 0 + n ≡ n = omega arith in
    ap (filter (is_ungiven a m)) (rw same at (range_next 0 n)) ∙ filter-append (is_ungiven a m) (range_with_len 0 n) (n ∷ [])

front : (xs : List ℕ) (n : ℕ) → option_or (slice_get xs 0) (Some n) ≡ slice_get (xs ++ n ∷ []) 0
front [] n = refl
front (x ∷ xs) n = refl

module _ (a : ArrayView) (m : MemberView) (n count : ℕ) (first : Option ℕ) (many : count ≡ length (ungiven_below a m n)) (is : first ≡ slice_get (ungiven_below a m n) 0) where
  -- that is ungiven
  pub ungiven_more : is_ungiven a m n ≡ true → (count + 1 ≡ length (ungiven_below a m (n + 1))) × (option_or first (Some n) ≡ slice_get (ungiven_below a m (n + 1)) 0)
  ungiven_more so =
      let xs = ungiven_below a m n in
      let more : ungiven_below a m (n + 1) ≡ xs ++ n ∷ [] = next a m n ∙ ap (λ (b : Bool). xs ++ cond b (n ∷ []) []) so in (
        ap (λ (x : ℕ). x + 1) many ∙ sym (length-append xs (n ∷ [])) ∙ sym (ap length more),
        ap (λ (o : Option ℕ). option_or o (Some n)) is ∙ front xs n ∙ sym (ap (λ (ys : List ℕ). slice_get ys 0) more),
      )

  -- that is not
  pub ungiven_same : is_ungiven a m n ≡ false → (count ≡ length (ungiven_below a m (n + 1))) × (first ≡ slice_get (ungiven_below a m (n + 1)) 0)
  ungiven_same so =
      let xs = ungiven_below a m n in
      let same : ungiven_below a m (n + 1) ≡ xs = next a m n ∙ ap (λ (b : Bool). xs ++ cond b (n ∷ []) []) so ∙ append-nil xs in
      (many ∙ sym (ap length same), is ∙ sym (ap (λ (ys : List ℕ). slice_get ys 0) same))

-- ---- one member more
module _ (p : MemberView → Bool) (ms : List MemberView) (k : ℕ) (answer : Bool) (lt : k < length ms) (is : (m : MemberView) → slice_get ms k ≡ Some m → answer ≡ p m) where
  at_member : p (get_or ms k (there ms k lt).0) ≡ answer
  at_member =
      let found = there ms k lt in
      ap p (get_or_from_slice_get ms k found.0 found.0 found.1) ∙ sym (is found.0 found.1)

  pub all_more : answer ≡ true → list_all p (take k ms) ≡ true → list_all p (take (k + 1) ms) ≡ true
  all_more so before =
      list_all_more p ms k (there ms k lt).0 lt
      ∙ ap (λ (b : Bool). b && p (get_or ms k (there ms k lt).0)) before
      ∙ at_member
      ∙ so

  pub not_all : answer ≡ false → list_all p ms ≡ false
  not_all so = list_all_at p ms k (there ms k lt).0 lt (at_member ∙ so)

-- ---- the runs of a list
-- a sector of the list lies between
abbrev pub IsBetween : List Run → ℕ → ℕ → Type 0
IsBetween runs from to = (sector : ℕ) × IsBad runs sector × (from ≤ sector) × (sector < to)

abbrev run_between : Run → ℕ → ℕ → Bool
run_between run from to = nat_lt from (run.start + run.len) && nat_lt run.start to

between_run : (run : Run) (from to : ℕ) → 0 < run.len → from < to → run_between run from to ≡ true → (sector : ℕ) × LiesIn sector run × (from ≤ sector) × (sector < to)
between_run run from to some wide e =
    let parts = and_parts (nat_lt from (run.start + run.len)) (nat_lt run.start to) e in
    let ends : from < run.start + run.len = ltb-true from (run.start + run.len) parts.0 in
    let starts : run.start < to = ltb-true run.start to parts.1 in
    elim (cases_lt from run.start) [
      | inl before ↦ (run.start, (omega arith, omega (arith, some)), omega (arith, before), starts)
      | inr after ↦ (from, (after, ends), omega arith, wide)
    ]

run_has : (run : Run) (from to sector : ℕ) → LiesIn sector run → from ≤ sector → sector < to → run_between run from to ≡ true
run_has run from to sector lies low high =
    and_from (nat_lt from (run.start + run.len)) (nat_lt run.start to)
    (lt-ltb from (run.start + run.len) (omega (arith, lies.1, low)))
    (lt-ltb run.start to (omega (arith, lies.0, high)))

or_which : (x y : Bool) → (x || y) ≡ true → (x ≡ true) ⊎ (y ≡ true)
or_which true y e = inl refl
or_which false y e = inr e

found : (runs : List Run) (low from to : ℕ) → RisesFrom low runs → from < to → lists_between runs from to ≡ true → IsBetween runs from to
found [] low from to rises wide e = absurd (true≢false (sym e))
found (run ∷ runs) low from to rises wide e = elim (or_which (run_between run from to) (lists_between runs from to) e) [
  | inl here ↦ let at = between_run run from to rises.1 wide here in (at.0, inl at.1, at.2, at.3)
  | inr later ↦ let at = found runs (run.start + run.len + 1) from to rises.3 wide later in (at.0, inr at.1, at.2, at.3)
]

has : (runs : List Run) (from to sector : ℕ) → IsBad runs sector → from ≤ sector → sector < to → lists_between runs from to ≡ true
has [] from to sector bad low high = absurd bad
has (run ∷ runs) from to sector (inl here) low high = or_left (run_between run from to) (lists_between runs from to) (run_has run from to sector here low high)
has (run ∷ runs) from to sector (inr later) low high = or_right (run_between run from to) (lists_between runs from to) (has runs from to sector later low high)

by_cases : (x y : Bool) → (x ≡ true → y ≡ true) → (y ≡ true → x ≡ true) → x ≡ y
by_cases true true f g = refl
by_cases true false f g = sym (f refl)
by_cases false true f g = g refl
by_cases false false f g = refl

-- whether a sector of the list lies between, which was asked of the set
pub between_is : (runs : List Run) (from to : ℕ) (answer : Bool) → RisesFrom 0 runs → from < to → ((answer ≡ true) ↔ IsBetween runs from to) → answer ≡ lists_between runs from to
between_is runs from to answer rises wide iff =
    by_cases answer (lists_between runs from to)
    (λ yes. let at = iff.0 yes in has runs from to at.0 at.1 at.2 at.3)
    (λ yes. iff.1 (found runs 0 from to rises wide yes))

none_before : (runs : List Run) (low from to : ℕ) → RisesFrom low runs → 2 ^ 54 ≤ from → lists_between runs from to ≡ true → false ≡ true
none_before [] low from to rises past e = e
none_before (run ∷ runs) low from to rises past e = elim (or_which (run_between run from to) (lists_between runs from to) e) [
  | inl here ↦
      let ends = ltb-true from (run.start + run.len) (and_parts (nat_lt from (run.start + run.len)) (nat_lt run.start to) here).0 in
      absurd (omega (arith, ends, rises.2, past))
  | inr later ↦ none_before runs (run.start + run.len + 1) from to rises.3 past later
]

-- no list has sectors so high
pub none_so_high : (runs : List Run) (from to : ℕ) → RisesFrom 0 runs → 2 ^ 54 ≤ from → false ≡ lists_between runs from to
none_so_high runs from to rises past = by_cases false (lists_between runs from to) (λ e. absurd (true≢false (sym e))) (λ e. none_before runs 0 from to rises past e)

-- an empty list
pub none_of_none : (runs : List Run) (from to : ℕ) → length runs ≡ 0 → false ≡ lists_between runs from to
none_of_none [] from to none = refl
none_of_none (run ∷ runs) from to none = absurd (omega (arith, none))
