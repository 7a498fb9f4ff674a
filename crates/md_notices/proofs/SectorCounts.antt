-- Runs of a set of bad sectors don't overlap, and end by sector 2^54: so their lengths have a sum below that.
use Rattle.std.proofs.Common.{◌≡◌, ℕ, ◌+◌, ◌^◌, ◌<◌, ◌≤◌, List, [], ◌∷◌, arith}
use Rattle.std.proofs.lemmas.List.Sums.{sum_by-cons}
use Rattle.md_badblocks.specs.declared.run.Run.{Run}
use Rattle.md_badblocks.specs.Runs.{IsCanonical, RisesFrom}
use Rattle.md_notices.specs.ListedSectors.{sector_count}

sectors_bound : (low : ℕ) (runs : List Run) → RisesFrom low runs → low ≤ 2 ^ 54 + 1 → low + sector_count runs ≤ 2 ^ 54 + 1
sectors_bound low [] h le = omega arith
sectors_bound low (r ∷ rs) h le =
    let rest = sectors_bound (r.start + r.len + 1) rs h.3 (omega arith) in
    let sum = sum_by-cons (λ (run : Run). run.len) r rs in
    omega arith

pub sectors_fit : (runs : List Run) → IsCanonical runs → sector_count runs < 2 ^ 64
sectors_fit runs h = omega (arith, sectors_bound 0 runs h (omega arith))
