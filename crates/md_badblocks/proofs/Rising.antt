-- Rising lists of runs: what holds of their parts, and of the sectors in them.
use Rattle.std.proofs.Common.{◌≡◌, ℕ, zero, suc, ◌+◌, ◌^◌, ◌<◌, ◌≤◌, ◌⊎◌, inl, inr, List, [], ◌∷◌, ◌++◌, length, get_or, sym, subst, arith}
use Rattle.std.specs.List.{AllByRecursion}
use Rattle.md_badblocks.specs.declared.run.Run.{Run}
use Rattle.md_badblocks.specs.Runs.{IsBad, RisesFrom}

pub rises_weaker : (a b : ℕ) (runs : List Run) → a ≤ b → RisesFrom b runs → RisesFrom a runs
rises_weaker a b [] le h = tt
rises_weaker a b (r ∷ rs) le h = (omega arith, h.1, h.2, h.3)

pub rises_higher : (a b : ℕ) (runs : List Run) → AllByRecursion (λ r. a ≤ r.start) runs → RisesFrom b runs → RisesFrom a runs
rises_higher a b [] all h = tt
rises_higher a b (r ∷ rs) all h = (all.0, h.1, h.2, h.3)

-- where a run after these may start at the lowest
abbrev pub next : ℕ → List Run → ℕ
next low [] = low
next low (r ∷ rs) = next (r.start + r.len + 1) rs

pub rises_parts : (low : ℕ) (a b : List Run) → RisesFrom low (a ++ b) → RisesFrom low a × RisesFrom (next low a) b
rises_parts low [] b h = (tt, h)
rises_parts low (r ∷ a) b h =
    let rest = rises_parts (r.start + r.len + 1) a b h.3 in ((h.0, h.1, h.2, rest.0), rest.1)

pub rises_joined : (low : ℕ) (a b : List Run) → RisesFrom low a → RisesFrom (next low a) b → RisesFrom low (a ++ b)
rises_joined low [] b ha hb = hb
rises_joined low (r ∷ a) b ha hb = (ha.0, ha.1, ha.2, rises_joined (r.start + r.len + 1) a b ha.3 hb)

pub next_below : (low limit : ℕ) (runs : List Run) → low ≤ limit → AllByRecursion (λ r. r.start + r.len < limit) runs → next low runs ≤ limit
next_below low limit [] le all = le
next_below low limit (r ∷ rs) le all = let h : r.start + r.len < limit = all.0 in next_below (r.start + r.len + 1) limit rs (omega arith) all.1

-- the sectors
pub bad_from : (low : ℕ) (runs : List Run) (s : ℕ) → RisesFrom low runs → IsBad runs s → low ≤ s
bad_from low [] s h bad = absurd bad
bad_from low (r ∷ rs) s h bad =
    elim bad [ inl here ↦ omega arith | inr later ↦ omega (arith, bad_from (r.start + r.len + 1) rs s h.3 later) ]

pub bad_below : (low : ℕ) (runs : List Run) (s : ℕ) → RisesFrom low runs → IsBad runs s → s < 2 ^ 54
bad_below low [] s h bad = absurd bad
bad_below low (r ∷ rs) s h bad =
    elim bad [ inl here ↦ omega arith | inr later ↦ bad_below (r.start + r.len + 1) rs s h.3 later ]

pub bad_before : (limit : ℕ) (runs : List Run) (s : ℕ) → AllByRecursion (λ r. r.start + r.len < limit) runs → IsBad runs s → s + 1 < limit
bad_before limit [] s all bad = absurd bad
bad_before limit (r ∷ rs) s all bad =
    let h : r.start + r.len < limit = all.0 in
    elim bad [ inl here ↦ omega arith | inr later ↦ bad_before limit rs s all.1 later ]

pub bad_after : (low : ℕ) (runs : List Run) (s : ℕ) → AllByRecursion (λ r. low ≤ r.start) runs → IsBad runs s → low ≤ s
bad_after low [] s all bad = absurd bad
bad_after low (r ∷ rs) s all bad =
    let h : low ≤ r.start = all.0 in
    elim bad [ inl here ↦ omega arith | inr later ↦ bad_after low rs s all.1 later ]

pub bad_left : (a b : List Run) (s : ℕ) → IsBad a s → IsBad (a ++ b) s
bad_left [] b s bad = absurd bad
bad_left (r ∷ a) b s bad = elim bad [ inl here ↦ inl here | inr later ↦ inr (bad_left a b s later) ]

pub bad_right : (a b : List Run) (s : ℕ) → IsBad b s → IsBad (a ++ b) s
bad_right [] b s bad = bad
bad_right (r ∷ a) b s bad = inr (bad_right a b s bad)

pub bad_side : (a b : List Run) (s : ℕ) → IsBad (a ++ b) s → IsBad a s ⊎ IsBad b s
bad_side [] b s bad = inr bad
bad_side (r ∷ a) b s bad =
    elim bad [
      | inl here ↦ inl (inl here)
      | inr later ↦ elim (bad_side a b s later) [ inl left ↦ inl (inr left) | inr right ↦ inr right ]
    ]

-- the runs by their places
pub starts_from : (low : ℕ) (runs : List Run) (k : ℕ) (d : Run) → RisesFrom low runs → k < length runs → low ≤ (get_or runs k d).start
starts_from low [] k d h lt = absurd (omega arith)
starts_from low (r ∷ rs) zero d h lt = h.0
starts_from low (r ∷ rs) (suc k) d h lt =
    omega (arith, starts_from (r.start + r.len + 1) rs k d h.3 (omega arith))

pub run_fits : (low : ℕ) (runs : List Run) (k : ℕ) (d : Run) → RisesFrom low runs → k < length runs → (get_or runs k d).start + (get_or runs k d).len ≤ 2 ^ 54
run_fits low [] k d h lt = absurd (omega arith)
run_fits low (r ∷ rs) zero d h lt = h.2
run_fits low (r ∷ rs) (suc k) d h lt = run_fits (r.start + r.len + 1) rs k d h.3 (omega arith)

pub starts_rise : (low : ℕ) (runs : List Run) (i j : ℕ) (d : Run) → RisesFrom low runs → i ≤ j → j < length runs → (get_or runs i d).start ≤ (get_or runs j d).start
starts_rise low [] i j d h le lt = absurd (omega arith)
starts_rise low (r ∷ rs) zero zero d h le lt = omega arith
starts_rise low (r ∷ rs) zero (suc j) d h le lt =
    omega (arith, starts_from (r.start + r.len + 1) rs j d h.3 (omega arith))
starts_rise low (r ∷ rs) (suc i) zero d h le lt = absurd (omega arith)
starts_rise low (r ∷ rs) (suc i) (suc j) d h le lt =
    starts_rise (r.start + r.len + 1) rs i j d h.3 (omega arith) (omega arith)

pub ends_rise : (low : ℕ) (runs : List Run) (i j : ℕ) (d : Run) → RisesFrom low runs → i ≤ j → j < length runs → (get_or runs i d).start + (get_or runs i d).len ≤ (get_or runs j d).start + (get_or runs j d).len
ends_rise low [] i j d h le lt = absurd (omega arith)
ends_rise low (r ∷ rs) zero zero d h le lt = omega arith
ends_rise low (r ∷ rs) zero (suc j) d h le lt =
    omega (arith, starts_from (r.start + r.len + 1) rs j d h.3 (omega arith))
ends_rise low (r ∷ rs) (suc i) zero d h le lt = absurd (omega arith)
ends_rise low (r ∷ rs) (suc i) (suc j) d h le lt =
    ends_rise (r.start + r.len + 1) rs i j d h.3 (omega arith) (omega arith)

pub read_fits : (runs : List Run) (k : ℕ) (run : Run) → RisesFrom 0 runs → k < length runs → run ≡ get_or runs k run → run.start + run.len ≤ 2 ^ 54
read_fits runs k run h lt e = let P : Run → Type 0 = λ q. q.start + q.len ≤ 2 ^ 54 in subst P (sym e) (run_fits 0 runs k run h lt)

run_some : (low : ℕ) (runs : List Run) (k : ℕ) (d : Run) → RisesFrom low runs → k < length runs → 0 < (get_or runs k d).len
run_some low [] k d h lt = absurd (omega arith)
run_some low (r ∷ rs) zero d h lt = h.1
run_some low (r ∷ rs) (suc k) d h lt = run_some (r.start + r.len + 1) rs k d h.3 (omega arith)

pub read_some : (runs : List Run) (k : ℕ) (run : Run) → RisesFrom 0 runs → k < length runs → run ≡ get_or runs k run → 0 < run.len
read_some runs k run h lt e = let P : Run → Type 0 = λ q. 0 < q.len in subst P (sym e) (run_some 0 runs k run h lt)
