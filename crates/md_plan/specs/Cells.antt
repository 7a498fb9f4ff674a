-- How many chunks of each mask each source holds, and what it is to move some.
use Rattle.std.specs.Prelude.{◌≡◌, ◌≢◌, ℕ, ◌+◌, ◌-◌, ◌<◌, ◌≤◌, ◌==◌, Bool, true, List, length, All, slice_index, slice_index_or, if◌then◌else◌}
use Rattle.std.specs.List.{HoldsAt, sum_by}
use Rattle.md_cert.specs.Sources.{has}
use Rattle.md_plan.specs.declared.cell.Cell.{Cell}

-- the chunks whose masks pass a test
abbrev pub count_with : (ℕ → Bool) → List Cell → ℕ
count_with q cells = sum_by (λ c. if q c.mask then c.count else 0) cells

-- the chunks that a source holds
abbrev pub load_of : ℕ → List Cell → ℕ
load_of s cells = sum_by (λ c. if c.source == s then c.count else 0) cells

-- each cell's source is one of its mask
abbrev pub AreAllowed : List Cell → Type 0
AreAllowed cells = All (λ c. has c.mask c.source ≡ true) cells

-- the cell holds chunks of one source that another may give
pub record IsMovable (s t : ℕ) (c : Cell) : Type 0 where
  pub some : 0 < c.count
  pub source : c.source ≡ s
  pub mask : has c.mask t ≡ true

-- one source holds a chunk that another may give
pub record CanMove (cells : List Cell) (s t : ℕ) : Type 0 where
  pub at : ℕ
  pub within : at < length cells
  pub movable : HoldsAt (IsMovable s t) cells at

-- n chunks that source s held are held by source t, which may give them
pub record Moves (old new : List Cell) (s t n : ℕ) : Type 0 where
  pub counts : (q : ℕ → Bool) → count_with q new ≡ count_with q old
  pub from : load_of s new + n ≡ load_of s old
  pub to : load_of t new ≡ load_of t old + n
  pub others : (u : ℕ) → u ≢ s → u ≢ t → load_of u new ≡ load_of u old
  pub allowed : AreAllowed old → AreAllowed new
  pub kept : (u v : ℕ) → u ≢ s → CanMove old u v → CanMove new u v

-- no cell is lost, and all but one are as before
pub record KeepsOtherCells (old new : List Cell) (at : ℕ) : Type 0 where
  pub long : length old ≤ length new
  pub same : (k : ℕ) (d : Cell) → k ≢ at → k < length old → slice_index_or new k d ≡ slice_index_or old k d

-- the numbers of chunks that the sources hold
pub record AreLoads (cells : List Cell) (loads : List ℕ) : Type 0 where
  pub long : length loads ≡ 32
  pub each : (s : ℕ) → s < 32 → slice_index loads s ≡ load_of s cells

-- how many chunks are above a bound
abbrev pub excess : ℕ → List ℕ → ℕ
excess bound loads = sum_by (λ n. n - bound) loads

-- chunks may have changed sources, and fewer are above the bound
pub record Lightens (bound : ℕ) (old new : List Cell) (old_loads new_loads : List ℕ) : Type 0 where
  pub counts : (q : ℕ → Bool) → count_with q new ≡ count_with q old
  pub allowed : AreAllowed new
  pub loads : AreLoads new new_loads
  pub less : excess bound new_loads < excess bound old_loads
