-- Alternating paths from the overloaded sources.
use Rattle.std.specs.Prelude.{◌≡◌, ◌≢◌, ℕ, ◌<◌, ◌≤◌, ◌⊎◌, true, false, List, slice_index}
use Rattle.md_cert.specs.Sources.{has}
use Rattle.md_plan.specs.declared.cell.Cell.{Cell}
use Rattle.md_plan.specs.declared.search.Found.{Found}
use Rattle.md_plan.specs.declared.search.Found.TheVariants.{Light, Closed}
use Rattle.md_plan.specs.Cells.{CanMove}

-- each word has the sources that may give a chunk which its source holds
pub record IsReach (cells : List Cell) (reach : List ℕ) : Type 0 where
  pub sound : (s t : ℕ) → s < 32 → has (slice_index reach s) t ≡ true → CanMove cells s t
  pub complete : (s t : ℕ) → s < 32 → CanMove cells s t → has (slice_index reach s) t ≡ true

-- no step leads out of the sources
abbrev pub IsClosed : List ℕ → ℕ → Type 0
IsClosed reach sources = (s t : ℕ) → has sources s ≡ true → has (slice_index reach s) t ≡ true → has sources t ≡ true

-- the sources above the bound
pub record AreHeavy (loads : List ℕ) (bound sources : ℕ) : Type 0 where
  pub above : (s : ℕ) → has sources s ≡ true → bound < slice_index loads s
  pub all : (s : ℕ) → s < 32 → bound < slice_index loads s → has sources s ≡ true
  pub some : sources ≢ 0 → (s : ℕ) × (has sources s ≡ true)

-- a step from a source of a set to one that is not in it
pub record IsStep (reach : List ℕ) (sources s t : ℕ) : Type 0 where
  pub from_within : s < 32
  pub to_within : t < 32
  pub from : has sources s ≡ true
  pub step : has (slice_index reach s) t ≡ true
  pub to : has sources t ≡ false

-- a source above the bound, from which paths begin
pub record IsRoot (loads : List ℕ) (bound : ℕ) (order : List ℕ) (v : ℕ) : Type 0 where
  pub first : slice_index order v ≡ 0
  pub above : bound < slice_index loads v

-- a source reached from an earlier one
pub record IsChild (loads reach : List ℕ) (bound sources : ℕ) (order parent : List ℕ) (v : ℕ) : Type 0 where
  pub later : 0 < slice_index order v
  pub within : slice_index loads v ≤ bound
  pub seen : has sources (slice_index parent v) ≡ true
  pub earlier : slice_index order (slice_index parent v) < slice_index order v
  pub step : has (slice_index reach (slice_index parent v)) v ≡ true

-- paths to all sources seen
abbrev pub IsForest : List ℕ → List ℕ → ℕ → ℕ → List ℕ → List ℕ → Type 0
IsForest loads reach bound sources order parent =
    (v : ℕ) → has sources v ≡ true → IsRoot loads bound order v ⊎ IsChild loads reach bound sources order parent v

-- a path to a source below the bound
pub record IsPath (loads reach : List ℕ) (bound : ℕ) (order parent : List ℕ) (light : ℕ) : Type 0 where
  pub sources : ℕ
  pub forest : IsForest loads reach bound sources order parent
  pub seen : has sources light ≡ true
  pub below : slice_index loads light < bound

-- the sources reached, none of which is below the bound
pub record IsDeadEnd (loads reach : List ℕ) (bound sources : ℕ) : Type 0 where
  pub closed : IsClosed reach sources
  pub heavy : (s : ℕ) → s < 32 → bound < slice_index loads s → has sources s ≡ true
  pub full : (s : ℕ) → has sources s ≡ true → bound ≤ slice_index loads s

abbrev pub IsSearchResult : List ℕ → List ℕ → ℕ → List ℕ → List ℕ → Found → Type 0
IsSearchResult loads reach bound order parent (Light light) = IsPath loads reach bound order parent light
IsSearchResult loads reach bound order parent (Closed sources) = IsDeadEnd loads reach bound sources
