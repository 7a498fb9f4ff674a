-- Ranges of sectors that a caller names, against a rising list.
use Rattle.std.proofs.Common.{◌≡◌, ℕ, zero, suc, ◌+◌, ◌-◌, ◌/◌, ◌^◌, ◌<◌, ◌≤◌, ◌⊎◌, ◌↔◌, inl, inr, min, max, List, [], ◌∷◌, ◌++◌, length, get_or, take, drop, ap, ◌∙◌, sym, subst, arith}
use Rattle.std.specs.List.{AllByRecursion}
use Rattle.std.proofs.lemmas.Bool.{cases_lt}
use Rattle.std.proofs.lemmas.List.{take-append-drop, take_all, drop_more}
use Rattle.std.proofs.lemmas.List.Sums.{sum_by-cons}
use Rattle.md_badblocks.specs.declared.run.Run.{Run}
use Rattle.md_badblocks.specs.Runs.{LiesIn, IsBad, RisesFrom, entry_count, entries_needed}
use Rattle.md_badblocks.proofs.Rising.{bad_from, bad_below, bad_before, bad_side, read_fits, read_some}
use Rattle.md_badblocks.proofs.Joins.{rises_behind}

-- what is left of a set without the range, where the code cuts the range at 2^54
pub removed : (old new : List Run) (start len end : ℕ) → RisesFrom 0 old → end ≡ min (start + len) (2 ^ 54) → ((s : ℕ) → IsBad new s ↔ (IsBad old s × ((s < start) ⊎ (end ≤ s)))) → (s : ℕ) → IsBad new s ↔ (IsBad old s × ((s < start) ⊎ (start + len ≤ s)))
removed old new start len end h is cut s = (
  λ bad. let both = (cut s).0 bad in let low = bad_below 0 old s h both.0 in
      (both.0, elim both.1 [ inl below ↦ inl below | inr above ↦ inr (omega arith) ]),
  λ both. (cut s).1 (both.0, elim both.1 [ inl below ↦ inl below | inr above ↦ inr (omega arith) ]),
)

-- an empty range, or one from 2^54 on
pub none_removed : (old : List Run) (start len end : ℕ) → RisesFrom 0 old → end ≡ min (start + len) (2 ^ 54) → end ≤ start → (s : ℕ) → IsBad old s ↔ (IsBad old s × ((s < start) ⊎ (start + len ≤ s)))
none_removed old start len end h is empty s = (
  λ bad. let low = bad_below 0 old s h bad in
      (bad, elim (cases_lt s start) [ inl below ↦ inl below | inr above ↦ inr (omega arith) ]),
  λ both. both.0,
)

bad_at : (runs : List Run) (k : ℕ) (d : Run) (s : ℕ) → k < length runs → LiesIn s (get_or runs k d) → IsBad runs s
bad_at [] k d s lt lies = absurd (omega arith)
bad_at (r ∷ rs) zero d s lt lies = inl lies
bad_at (r ∷ rs) (suc k) d s lt lies = inr (bad_at rs k d s (omega arith) lies)

-- a sector that is bad, and in the range
abbrev pub Meets : List Run → ℕ → ℕ → Type 0
Meets runs start len = (s : ℕ) × IsBad runs s × (start ≤ s) × (s < start + len)

-- `low` is the first sector at or past which a run that meets the range ends
pub met : (runs : List Run) (i : ℕ) (run : Run) (start len low end : ℕ) → RisesFrom 0 runs → i < length runs → AllByRecursion (λ r. low ≤ r.start + r.len) (drop i runs) → run ≡ get_or runs i run → 0 < len → low ≡ min (start + 1) (2 ^ 64 - 1) → end ≡ min (start + len) (2 ^ 64 - 1) → run.start < end → Meets runs start len
met runs i run start len low end h lt after is some is_low is_end before =
    let fits = read_fits runs i run h lt is in
    let full = read_some runs i run h lt is in
    let P : Run → Type 0 = λ r. low ≤ r.start + r.len in
    let all : AllByRecursion (λ r. low ≤ r.start + r.len) (get_or runs i run ∷ drop (i + 1) runs) = subst (AllByRecursion (λ r. low ≤ r.start + r.len)) (drop_more runs i run lt) after in
    let reaches : low ≤ run.start + run.len = subst P (sym is) all.0 in
    let L : Run → Type 0 = λ r. LiesIn (max run.start start) r in
    let lies : LiesIn (max run.start start) run = (omega arith, omega arith) in
    (max run.start start, bad_at runs i run (max run.start start) lt (subst L is lies), omega arith, omega arith)

pub not_before : (runs : List Run) (i : ℕ) (start low s : ℕ) → AllByRecursion (λ r. r.start + r.len < low) (take i runs) → low ≤ start + 1 → start ≤ s → IsBad (take i runs) s → ⊥
not_before runs i start low s before le from bad =
    let lt = bad_before low (take i runs) s before bad in absurd (omega arith)

pub starts_before : (runs : List Run) (i : ℕ) (run : Run) (start len low end : ℕ) → RisesFrom 0 runs → i < length runs → AllByRecursion (λ r. r.start + r.len < low) (take i runs) → run ≡ get_or runs i run → low ≡ min (start + 1) (2 ^ 64 - 1) → end ≡ min (start + len) (2 ^ 64 - 1) → Meets runs start len → run.start < end
starts_before runs i run start len low end h lt before is is_low is_end meets =
    let B : List Run → Type 0 = λ xs. IsBad xs meets.0 in
    let whole : IsBad (take i runs ++ drop i runs) meets.0 = subst B (sym (take-append-drop i runs)) meets.1 in
    let limit = bad_below 0 runs meets.0 h meets.1 in
    let from : start ≤ meets.0 = meets.2 in
    let to : meets.0 < start + len = meets.3 in
    elim (bad_side (take i runs) (drop i runs) meets.0 whole) [
      | inl left ↦ absurd (not_before runs i start low meets.0 before (omega arith) from left)
      | inr right ↦
          let e : drop i runs ≡ run ∷ drop (i + 1) runs = drop_more runs i run lt ∙ ap (λ r. r ∷ drop (i + 1) runs) (sym is) in
          let behind : RisesFrom 0 (run ∷ drop (i + 1) runs) = subst (RisesFrom 0) e (rises_behind runs i h) in
          let here : IsBad (run ∷ drop (i + 1) runs) meets.0 = subst B e right in
          let first = bad_from run.start (run ∷ drop (i + 1) runs) meets.0 (omega arith, behind.1, behind.2, behind.3) here in
          omega arith
    ]

pub met_none : (runs : List Run) (i : ℕ) (start len low : ℕ) → length runs ≤ i → AllByRecursion (λ r. r.start + r.len < low) (take i runs) → low ≡ min (start + 1) (2 ^ 64 - 1) → Meets runs start len → ⊥
met_none runs i start len low all before is_low meets =
    let B : List Run → Type 0 = λ xs. IsBad xs meets.0 in
    let from : start ≤ meets.0 = meets.2 in
    not_before runs i start low meets.0 before (omega arith) from (subst B (sym (take_all i runs all)) meets.1)

-- a run takes no more entries than it has sectors
entries_bound : (low : ℕ) (runs : List Run) → RisesFrom low runs → low ≤ 2 ^ 54 + 1 → low + entries_needed runs ≤ 2 ^ 54 + 1
entries_bound low [] h le = omega arith
entries_bound low (r ∷ rs) h le =
    let rest = entries_bound (r.start + r.len + 1) rs h.3 (omega arith) in
    let sum = sum_by-cons entry_count r rs in
    let few : (r.len + 511) / 512 ≤ r.len = omega arith in
    omega arith

pub entries_fit : (runs : List Run) → RisesFrom 0 runs → entries_needed runs < 2 ^ 64
entries_fit runs h = omega (arith, entries_bound 0 runs h (omega arith))
