-- What the searches and edits of rising lists say.
use Rattle.std.specs.Prelude.{ℕ, ◌+◌, ◌-◌, ◌<◌, ◌≤◌, ◌⊎◌, ◌↔◌, List, length, take, drop}
use Rattle.std.specs.List.{AllByRecursion}
use Rattle.md_badblocks.specs.declared.run.Run.{Run}
use Rattle.md_badblocks.specs.Runs.{IsBad, IsCanonical}

-- the runs before place `from` end below `low`, those from `to` on start at `high` or above, and those between do neither
pub record IsParted (low high : ℕ) (runs : List Run) (from to : ℕ) : Type 0 where
  pub ordered : from ≤ to
  pub within : to ≤ length runs
  pub below : AllByRecursion (λ run. run.start + run.len < low) (take from runs)
  pub reaching : AllByRecursion (λ run. low ≤ run.start + run.len) (drop from runs)
  pub starting : AllByRecursion (λ run. run.start < high) (take (to - from) (drop from runs))
  pub above : AllByRecursion (λ run. high ≤ run.start) (drop to runs)

-- the sectors from `start` up to `end` are added
pub record IsJoined (start end : ℕ) (old new : List Run) : Type 0 where
  pub canonical : IsCanonical new
  pub joined : (s : ℕ) → IsBad new s ↔ (IsBad old s ⊎ ((start ≤ s) × (s < end)))

-- the sectors from `start` up to `end` are taken away
pub record IsCut (start end : ℕ) (old new : List Run) : Type 0 where
  pub canonical : IsCanonical new
  pub cut : (s : ℕ) → IsBad new s ↔ (IsBad old s × ((s < start) ⊎ (end ≤ s)))
