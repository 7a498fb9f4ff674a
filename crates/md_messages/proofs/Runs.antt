-- Runs of sectors, one after another.
use Rattle.std.proofs.Common.{◌≡◌, ℕ, zero, suc, ◌+◌, ◌<◌, ◌≤◌, ◌^◌, List, [], ◌∷◌, length, take, get_or, arith}
use Rattle.std.proofs.lemmas.List.Sums.{sum_by-cons}
use Rattle.md_badblocks.specs.declared.run.Run.{Run}
use Rattle.md_badblocks.specs.Runs.{IsCanonical, RisesFrom}
use Rattle.md_messages.specs.Missing.{gap_count}

rises_fits : (low : ℕ) (runs : List Run) (i : ℕ) (d : Run) → RisesFrom low runs → i < length runs → (0 < (get_or runs i d).len) × ((get_or runs i d).start + (get_or runs i d).len ≤ 2 ^ 54)
rises_fits low [] i d rises lt = absurd (omega arith)
rises_fits low (run ∷ runs) zero d rises lt = (rises.1, rises.2)
rises_fits low (run ∷ runs) (suc i) d rises lt = rises_fits (run.start + run.len + 1) runs i d rises.3 (omega arith)

pub run_fits : (runs : List Run) (i : ℕ) (d : Run) → IsCanonical runs → i < length runs → (0 < (get_or runs i d).len) × ((get_or runs i d).start + (get_or runs i d).len ≤ 2 ^ 54)
run_fits runs i d canonical lt = rises_fits 0 runs i d canonical lt

-- the sectors of the first runs are few, as all of them are
rises_few : (low : ℕ) (runs : List Run) (n : ℕ) → RisesFrom low runs → low ≤ 2 ^ 54 + 1 → low + gap_count (take n runs) ≤ 2 ^ 54 + 1
rises_few low runs zero rises fits = omega (arith, fits)
rises_few low [] (suc n) rises fits = omega (arith, fits)
rises_few low (run ∷ runs) (suc n) rises fits =
    let rest = rises_few (run.start + run.len + 1) runs n rises.3 (omega (arith, rises.2)) in
    let all : gap_count (take (suc n) (run ∷ runs)) ≡ run.len + gap_count (take n runs) = sum_by-cons (λ (r : Run). r.len) run (take n runs) in
    omega (arith, rest, rises.0, all)

pub sectors_few : (runs : List Run) (n : ℕ) → IsCanonical runs → gap_count (take n runs) ≤ 2 ^ 54 + 1
sectors_few runs n canonical = let few = rises_few 0 runs n canonical (omega arith) in omega (arith, few)
