-- What the binary searches find.
use Rattle.std.proofs.Common.{◌≡◌, ℕ, ◌+◌, ◌-◌, ◌^◌, ◌<◌, ◌≤◌, min, true, false, ltb, List, length, get_or, take, drop, arith, length-take, length-drop}
use Rattle.std.specs.List.{AllWithin, AllByRecursion}
use Rattle.std.specs.List.Sorted.{IsPartitionPoint, IsPartitionedBy}
use Rattle.std.proofs.lemmas.Bool.{ltb-true, ltb-false}
use Rattle.std.proofs.lemmas.List.{get_or-take, get_or-drop}
use Rattle.std.proofs.lemmas.List.Elements.{recursion_from_All}
use Rattle.std.proofs.lemmas.List.Sorted.{IsPartitionedBy-ltb}
use Rattle.md_badblocks.specs.declared.run.Run.{Run}
use Rattle.md_badblocks.specs.Runs.{RisesFrom}
use Rattle.md_badblocks.proofs.Rising.{starts_rise, ends_rise, run_fits}

all_take : (P : Run → Type 0) (runs : List Run) (i : ℕ) → i ≤ length runs → AllWithin P runs 0 i → AllByRecursion P (take i runs)
all_take P runs i le h =
    recursion_from_All P (take i runs) (λ k d lt.
    let short = length-take i runs in
    rw (get_or-take i runs k d (omega arith)) (h k d (omega arith) (omega arith)))

all_drop : (P : Run → Type 0) (runs : List Run) (i : ℕ) → AllWithin P runs i (length runs) → AllByRecursion P (drop i runs)
all_drop P runs i h =
    recursion_from_All P (drop i runs) (λ k d lt.
    let short = length-drop i runs in
    rw (get_or-drop i runs k d) (h (i + k) d (omega arith) (omega arith)))

-- where a run ends, as the code computes it
abbrev pub capped_end : Run → ℕ
capped_end run = min (run.start + run.len) (2 ^ 64 - 1)

pub ends_are_parted : (runs : List Run) (t : ℕ) → RisesFrom 0 runs → IsPartitionedBy (λ r. ltb (capped_end r) t) runs
ends_are_parted runs t h =
    IsPartitionedBy-ltb capped_end runs t (λ i j d le lt. let e = ends_rise 0 runs i j d h le lt in omega arith)

pub starts_are_parted : (runs : List Run) (t : ℕ) → RisesFrom 0 runs → IsPartitionedBy (λ r. ltb r.start t) runs
starts_are_parted runs t h = IsPartitionedBy-ltb (λ r. r.start) runs t (λ i j d le lt. starts_rise 0 runs i j d h le lt)

pub ends_before : (runs : List Run) (t i : ℕ) → RisesFrom 0 runs → i ≤ length runs → IsPartitionPoint (λ r. ltb (capped_end r) t ≡ true) (λ r. ltb (capped_end r) t ≡ false) runs i → AllByRecursion (λ r. r.start + r.len < t) (take i runs)
ends_before runs t i h le at =
    all_take (λ r. r.start + r.len < t) runs i le (λ k d from lt.
    let fits = run_fits 0 runs k d h (omega arith) in
    let below = ltb-true (capped_end (get_or runs k d)) t (at.0 k d from lt) in
    omega arith)

pub ends_after : (runs : List Run) (t i : ℕ) → RisesFrom 0 runs → IsPartitionPoint (λ r. ltb (capped_end r) t ≡ true) (λ r. ltb (capped_end r) t ≡ false) runs i → AllByRecursion (λ r. t ≤ r.start + r.len) (drop i runs)
ends_after runs t i h at =
    all_drop (λ r. t ≤ r.start + r.len) runs i (λ k d from lt.
    let above = ltb-false (capped_end (get_or runs k d)) t (at.1 k d from lt) in
    omega arith)

pub starts_before : (runs : List Run) (t i : ℕ) → i ≤ length runs → IsPartitionPoint (λ r. ltb r.start t ≡ true) (λ r. ltb r.start t ≡ false) runs i → AllByRecursion (λ r. r.start < t) (take i runs)
starts_before runs t i le at =
    all_take (λ r. r.start < t) runs i le (λ k d from lt. ltb-true (get_or runs k d).start t (at.0 k d from lt))

pub starts_after : (runs : List Run) (t i : ℕ) → IsPartitionPoint (λ r. ltb r.start t ≡ true) (λ r. ltb r.start t ≡ false) runs i → AllByRecursion (λ r. t ≤ r.start) (drop i runs)
starts_after runs t i at =
    all_drop (λ r. t ≤ r.start) runs i (λ k d from lt. ltb-false (get_or runs k d).start t (at.1 k d from lt))
