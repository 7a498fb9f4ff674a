-- Classes of chunks with equal masks.
use Rattle.std.specs.Prelude.{◌≡◌, ℕ, ◌+◌, ◌<◌, ◌≤◌, ◌==◌, ◌&&◌, not, Bool, List, length, count_by, slice_index_or, if◌then◌else◌}
use Rattle.std.specs.List.{HoldsAt}
use Rattle.md_cert.specs.declared.table.Row.{Row}
use Rattle.md_plan.specs.declared.cell.Cell.{Cell}
use Rattle.md_plan.specs.Cells.{AreAllowed, count_with}

-- the chunks of a table that some source may give and whose masks pass a test
abbrev pub count_rows : (ℕ → Bool) → List Row → ℕ
count_rows q rows = count_by (λ r. not (r.mask == 0) && q r.mask) rows

-- the classes with one of this mask, perhaps a new one with no chunks
pub record HasClass (old new : List Cell) (mask class : ℕ) : Type 0 where
  pub within : class < length new
  pub mask_is : HoldsAt (λ c. c.mask ≡ mask) new class
  pub counts : (q : ℕ → Bool) → count_with q new ≡ count_with q old
  pub allowed : AreAllowed old → AreAllowed new
  pub long : length old ≤ length new
  pub few : length new ≤ length old + 1

-- one chunk more of a class
pub record AddsOne (old new : List Cell) (class : ℕ) : Type 0 where
  pub long : length new ≡ length old
  pub counts : (q : ℕ → Bool) (d : Cell) → count_with q new ≡ count_with q old + (if q (slice_index_or old class d).mask then 1 else 0)
  pub allowed : AreAllowed old → AreAllowed new

-- the rows below an index by class
pub record IsGroupedBelow (rows : List Row) (i : ℕ) (part : List Row) (cells : List Cell) (class_of : List ℕ) : Type 0 where
  pub counts : (q : ℕ → Bool) → count_with q cells ≡ count_rows q part
  pub allowed : AreAllowed cells
  pub long : length class_of ≡ i
  pub few : length cells ≤ i

-- the rows by class
abbrev pub IsGrouped : List Row → List Cell → List ℕ → Type 0
IsGrouped rows cells class_of = IsGroupedBelow rows (length rows) rows cells class_of

-- the classes given to sources of their masks
pub record AreClassesPlaced (old new : List Cell) : Type 0 where
  pub counts : (q : ℕ → Bool) → count_with q new ≡ count_with q old
  pub allowed : AreAllowed new
  pub long : length new ≡ length old

-- chunks of classes may have changed sources, and cells may have been parted
pub record IsLevelled (old new : List Cell) : Type 0 where
  pub counts : (q : ℕ → Bool) → count_with q new ≡ count_with q old
  pub allowed : AreAllowed new
