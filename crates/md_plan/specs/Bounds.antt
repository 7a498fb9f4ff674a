-- A number of rounds that some sources show to be needed.
use Rattle.std.specs.Prelude.{◌≡◌, ◌⊎◌, ℕ, ◌+◌, ◌-◌, ◌*◌, ◌<◌, ◌≤◌, ◌==◌, ◌&&◌, zero, suc, Bool, not, List, slice_index, if◌then◌else◌}
use Rattle.md_cert.specs.Sources.{has, count_sources}
use Rattle.md_plan.specs.declared.cell.Cell.{Cell}
use Rattle.md_plan.specs.declared.bound.Bound.{Bound}
use Rattle.md_plan.specs.Cells.{AreAllowed, AreLoads, count_with}

-- the mask has no source but these
unfoldable pub is_within : ℕ → ℕ → Bool
is_within sources mask = count_sources (λ s. has mask s && not (has sources s)) == 0

-- a sum over the numbers below n that pass the test
unfoldable pub sum_below : (ℕ → Bool) → (ℕ → ℕ) → ℕ → ℕ
sum_below p f zero = 0
sum_below p f (suc n) = if p n then sum_below p f n + f n else sum_below p f n

-- what some sources hold together
unfoldable pub sum_sources : ℕ → List ℕ → ℕ
sum_sources sources loads = sum_below (has sources) (λ s. slice_index loads s) 32

-- the chunks that only these sources may give are too many for one round less
abbrev pub IsShown : List Cell → Bound → Type 0
IsShown cells bound =
    (bound.rounds ≡ 0)
    ⊎ ((bound.rounds - 1) * count_sources (has bound.sources) < count_with (is_within bound.sources) cells)

-- chunks may have changed sources, and no source holds more than the bound, which is needed
pub record IsBalanced (old new : List Cell) (loads : List ℕ) (bound : Bound) : Type 0 where
  pub counts : (q : ℕ → Bool) → count_with q new ≡ count_with q old
  pub allowed : AreAllowed new
  pub are_loads : AreLoads new loads
  pub within : (s : ℕ) → s < 32 → slice_index loads s ≤ bound.rounds
  pub shown : IsShown old bound
