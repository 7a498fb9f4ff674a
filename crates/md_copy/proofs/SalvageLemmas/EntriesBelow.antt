-- How many entries of a list begin before a sector.
use Rattle.std.proofs.Common.{◌≡◌, ◌∙◌, ◌⊎◌, ◌↔◌, ℕ, zero, suc, ◌+◌, ◌-◌, ◌*◌, ◌/◌, ◌^◌, ◌<◌, ◌≤◌, min, List, [], ◌∷◌, ◌++◌, refl, ap, arith, inl, inr}
use Rattle.std.proofs.lemmas.List.Sums.{sum_by-cons, sum_by_push}
use Rattle.md_badblocks.specs.declared.run.Run.{Run}
use Rattle.md_badblocks.specs.Runs.{IsBad, IsCanonical, RisesFrom, entries_needed, entry_count}
use Rattle.md_badblocks.proofs.Rising.{bad_from, bad_left, bad_right, bad_side}
use Rattle.md_badblocks.proofs.Unique.{same_runs}

abbrev begun : ℕ → Run → ℕ
begun e run = (min (e - run.start) run.len + 511) / 512

abbrev pub entries_below : ℕ → List Run → ℕ
entries_below e [] = 0
entries_below e (run ∷ runs) = begun e run + entries_below e runs

begun_most : (e : ℕ) (run : Run) → begun e run ≤ entry_count run
begun_most e run = omega arith

begun_more : (a b : ℕ) (run : Run) → a ≤ b → begun a run ≤ begun b run
begun_more a b run le = omega arith

pub below_all : (e : ℕ) (runs : List Run) → entries_below e runs ≤ entries_needed runs
below_all e [] = omega arith
below_all e (run ∷ runs) = let one = begun_most e run in let more = below_all e runs in let sum = sum_by-cons entry_count run runs in omega (arith, one, more, sum)

pub below_more : (a b : ℕ) (runs : List Run) → a ≤ b → entries_below a runs ≤ entries_below b runs
below_more a b [] le = omega arith
below_more a b (run ∷ runs) le = let one = begun_more a b run le in let more = below_more a b runs le in omega (arith, one, more)

-- none begins before the first run
pub below_none : (low e : ℕ) (runs : List Run) → RisesFrom low runs → e ≤ low → entries_below e runs ≡ 0
below_none low e [] rises le = refl
below_none low e (run ∷ runs) rises le =
    let from = rises.0 in
    let one : begun e run ≡ 0 = omega (arith, from, le) in
    let more = below_none (run.start + run.len + 1) e runs rises.3 (omega (arith, from, le)) in
    omega (arith, one, more)

-- the entry of a sector begins at it or before
pub below_some : (low s : ℕ) (runs : List Run) → RisesFrom low runs → IsBad runs s → 1 ≤ entries_below (s + 1) runs
below_some low s [] rises bad = absurd bad
below_some low s (run ∷ runs) rises bad =
    elim bad [
      | inl here ↦ (let from = here.0 in let in_it = here.1 in let one : 1 ≤ begun (s + 1) run = omega (arith, from, in_it) in omega (arith, one))
      | inr later ↦ (let more = below_some (run.start + run.len + 1) s runs rises.3 later in omega (arith, more))
    ]

-- No entry of a list has both sectors.
abbrev pub IsApart : List Run → ℕ → ℕ → Type 0
IsApart runs s t = (s + 512 ≤ t) ⊎ ((u : ℕ) × (s < u) × (u < t) × (IsBad runs u → ⊥))

pub below_next : (low s t : ℕ) (runs : List Run) → RisesFrom low runs → IsBad runs s → IsBad runs t → s < t → IsApart runs s t → entries_below (s + 1) runs + 1 ≤ entries_below (t + 1) runs
below_next low s t [] rises at_s at_t less apart = absurd at_s
below_next low s t (run ∷ runs) rises (inl in_s) (inl in_t) less (inl far) =
    let one : begun (s + 1) run + 1 ≤ begun (t + 1) run = (let a = in_s.0 in let b = in_s.1 in let c = in_t.1 in omega (arith, a, b, c, far)) in
    let more = below_more (s + 1) (t + 1) runs (omega (arith, less)) in
    omega (arith, one, more)
below_next low s t (run ∷ runs) rises (inl in_s) (inl in_t) less (inr none) =
    absurd (none.3 (inl (let a = in_s.0 in let b = none.1 in let c = none.2 in let d = in_t.1 in (omega (arith, a, b), omega (arith, c, d)))))
below_next low s t (run ∷ runs) rises (inl in_s) (inr later) less apart =
    let high = in_s.1 in
    let one = begun_more (s + 1) (t + 1) run (omega (arith, less)) in
    let none = below_none (run.start + run.len + 1) (s + 1) runs rises.3 (omega (arith, high)) in
    let some = below_some (run.start + run.len + 1) t runs rises.3 later in
    omega (arith, one, none, some)
below_next low s t (run ∷ runs) rises (inr later) (inl in_t) less apart =
    absurd (let from = bad_from (run.start + run.len + 1) runs s rises.3 later in let high = in_t.1 in omega (arith, from, high, less))
below_next low s t (run ∷ runs) rises (inr at_s) (inr at_t) less apart =
    let one = begun_more (s + 1) (t + 1) run (omega (arith, less)) in
    let more = below_next (run.start + run.len + 1) s t runs rises.3 at_s at_t less (elim apart [ inl far ↦ inl far | inr none ↦ inr (none.0, none.1, none.2, λ bad. none.3 (inr bad)) ]) in
    omega (arith, one, more)

-- each 512th sector of a list begins one more
pub below_along : (k s : ℕ) (runs : List Run) → IsCanonical runs → ((i : ℕ) → i ≤ k → IsBad runs (s + 512 * i)) → entries_below (s + 1) runs + k ≤ entries_below (s + 512 * k + 1) runs
below_along zero s runs canonical all = let same = below_more (s + 1) (s + 512 * zero + 1) runs (omega arith) in omega (arith, same)
below_along (suc k) s runs canonical all =
    let before = below_along k s runs canonical (λ i low. all i (omega (arith, low))) in
    let next = below_next 0 (s + 512 * k) (s + 512 * suc k) runs canonical (all k (omega arith)) (all (suc k) (omega arith)) (omega arith) (inl (omega arith)) in
    omega (arith, before, next)

-- ---- a run behind all others
snoc_rises : (low : ℕ) (runs : List Run) (run : Run) → RisesFrom low runs → ((s : ℕ) → IsBad runs s → s + 1 < run.start) → low ≤ run.start → 0 < run.len → run.start + run.len ≤ 2 ^ 54 → RisesFrom low (runs ++ run ∷ [])
snoc_rises low [] run rises below from some short = (from, some, short, tt)
snoc_rises low (r ∷ rs) run rises below from some short =
    let l : 0 < r.len = rises.1 in
    let last = below (r.start + r.len - 1) (inl (omega (arith, l), omega (arith, l))) in
    (rises.0, rises.1, rises.2, snoc_rises (r.start + r.len + 1) rs run rises.3 (λ s bad. below s (inr bad)) (omega (arith, last, l)) some short)

-- where a run is added behind all others
pub entries_more : (runs new : List Run) (first end : ℕ) → IsCanonical runs → IsCanonical new → ((s : ℕ) → IsBad runs s → s + 1 < first) → first < end → end ≤ 2 ^ 54
    → ((s : ℕ) → IsBad new s ↔ (IsBad runs s ⊎ ((first ≤ s) × (s < end)))) → entries_needed new ≡ entries_needed runs + (end - first + 511) / 512
entries_more runs new first end canonical canonical_new below some short added =
    let run : Run = record { start = first; len = end - first } in
    let to : (s : ℕ) → IsBad new s → IsBad (runs ++ run ∷ []) s = λ s bad. elim ((added s).0 bad) [
      | inl was ↦ bad_left runs (run ∷ []) s was
      | inr here ↦ bad_right runs (run ∷ []) s (inl (here.0, (let high = here.1 in omega (arith, high, some))))
    ] in
    let back : (s : ℕ) → IsBad (runs ++ run ∷ []) s → IsBad new s = λ s bad. (added s).1 (elim (bad_side runs (run ∷ []) s bad) [
      | inl was ↦ inl was
      | inr tail ↦ elim tail [ inl here ↦ inr (here.0, (let high = here.1 in omega (arith, high, some))) | inr none ↦ absurd none ]
    ]) in
    let same = same_runs 0 0 new (runs ++ run ∷ []) canonical_new (snoc_rises 0 runs run canonical below (omega arith) (omega (arith, some)) (omega (arith, some, short))) to back in
    ap entries_needed same ∙ sum_by_push entry_count runs run
