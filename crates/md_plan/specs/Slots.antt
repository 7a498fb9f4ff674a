-- Chunks and rounds given out by the counts.
use Rattle.std.specs.Prelude.{◌≡◌, ◌≢◌, ℕ, ◌+◌, ◌<◌, ◌≤◌, Bool, true, List, length, drop, All, slice_index, slice_index_or, if◌then◌else◌}
use Rattle.std.specs.List.{HoldsAt}
use Rattle.md_cert.specs.declared.table.Row.{Row}
use Rattle.md_cert.specs.declared.slots.Slot.{Slot}
use Rattle.md_cert.specs.Sources.{has}
use Rattle.md_cert.specs.Tables.{mask_of_chunk, orphans_of}
use Rattle.md_cert.specs.Plans.{IsPlanned, SlotsRise}
use Rattle.md_plan.specs.declared.cell.Cell.{Cell}
use Rattle.md_plan.specs.Cells.{AreAllowed, load_of, count_with}
use Rattle.md_plan.specs.Classes.{count_rows}

-- the cell has chunks of the mask
pub record HasChunksOf (mask : ℕ) (c : Cell) : Type 0 where
  pub some : 0 < c.count
  pub mask_is : c.mask ≡ mask

-- some cell has chunks of the mask
pub record SomeChunk (cells : List Cell) (mask : ℕ) : Type 0 where
  pub at : ℕ
  pub within : at < length cells
  pub has_chunks : HoldsAt (HasChunksOf mask) cells at

-- The new cells hold as many chunks of each mask, and for each source, as the old ones.
pub record HoldAsMuch (old new : List Cell) : Type 0 where
  pub counts : (q : ℕ → Bool) → count_with q new ≡ count_with q old
  pub loads : (s : ℕ) → load_of s new ≡ load_of s old
  pub allowed : AreAllowed old → AreAllowed new

-- one chunk of a cell is given out
pub record TakesOne (old new : List Cell) (mask source : ℕ) : Type 0 where
  pub long : length new ≡ length old
  pub counts : (q : ℕ → Bool) → count_with q new + (if q mask then 1 else 0) ≡ count_with q old
  pub from : load_of source new + 1 ≡ load_of source old
  pub others : (u : ℕ) → u ≢ source → load_of u new ≡ load_of u old
  pub allowed : AreAllowed new

-- the slots of the rows below an index, each in a place of its own
pub record IsSlotting (rows : List Row) (i : ℕ) (slots : List Slot) (used : List ℕ) : Type 0 where
  pub rise : SlotsRise slots
  pub later : (k m : ℕ) (d : Slot) (r : Row) → k < length slots → i ≤ m → m < length rows
      → (slice_index_or slots k d).chunk < (slice_index_or rows m r).chunk
  pub allowed : All (λ s. has (mask_of_chunk rows s.chunk) s.source ≡ true) slots
  pub placed : All (λ s. s.round < slice_index used s.source) slots
  pub single : (k m : ℕ) (d : Slot) → k < m → m < length slots
      → (slice_index_or slots k d).source ≡ (slice_index_or slots m d).source
      → (slice_index_or slots k d).round ≢ (slice_index_or slots m d).round
  pub covered : (k : ℕ) (r : Row) → k < i → (slice_index_or rows k r).mask ≢ 0 → IsPlanned slots (slice_index_or rows k r).chunk

-- the counts are those of the rows from an index on, and of the rounds used
pub record AreCountsLeft (rows : List Row) (i : ℕ) (first cells : List Cell) (used : List ℕ) : Type 0 where
  pub counts : (q : ℕ → Bool) → count_with q cells ≡ count_rows q (drop i rows)
  pub allowed : AreAllowed cells
  pub long : length used ≡ 32
  pub each : (s : ℕ) → s < 32 → slice_index used s + load_of s cells ≡ load_of s first

-- what all rows are given
pub record AreGivenOut (rows : List Row) (cells : List Cell) (slots : List Slot) (orphans : List ℕ) : Type 0 where
  pub used : List ℕ
  pub slotting : IsSlotting rows (length rows) slots used
  pub within : (s : ℕ) → s < 32 → slice_index used s ≤ load_of s cells
  pub orphans_are : orphans ≡ orphans_of rows
