-- What the collector keeps, and what it answers to a report.
use Rattle.std.specs.Prelude.{◌≡◌, ℕ, Bool, false, List, Option, Some, None, ◌==◌, ◌||◌, not, cond, ◌<◌, ◌≤◌, length, slice_index_or}
use Rattle.std.specs.List.{All}
use Rattle.md_cert.specs.declared.slots.Slot.{Slot}
use Rattle.md_cert.specs.Plans.{SlotsRise}
use Rattle.md_bitmap.specs.declared.chunks.Chunks.{Chunks}
use Rattle.md_bitmap.specs.Marks.{Bitmap, count_set, is_set}
use Rattle.md_collect.specs.declared.refusal.Refusal.{Refusal}
use Rattle.md_collect.specs.declared.refusal.Refusal.TheVariants.{Spoiled, Stranger, Double, Length}
use Rattle.md_collect.specs.Places.{IsChunk}
use Rattle.md_collect.specs.Reports.{ReportView, Copying, is_planned, has_length}

-- the chunks of a plan rise, and are the array's
pub record ArePlanned (chunks : Chunks) (slots : List Slot) : Type 0 where
  pub rising : SlotsRise slots
  pub within : All (λ s. IsChunk chunks s.chunk) slots

-- the slots below this place have lower chunks, and those from it on have not
pub record IsPlace (slots : List Slot) (chunk at : ℕ) : Type 0 where
  pub before : (i : ℕ) (d : Slot) → i < at → i < length slots → (slice_index_or slots i d).chunk < chunk
  pub after : (i : ℕ) (d : Slot) → at ≤ i → i < length slots → chunk ≤ (slice_index_or slots i d).chunk

pub record CollectorView : Type 0 where
  pub slots : List Slot  -- what the plan reads
  pub chunks : Chunks
  pub offset : ℕ  -- the target's first sector of data
  pub reported : Bitmap  -- the chunks that a counted report has
  pub spoiled : Bool  -- a write to the target failed

abbrev pub copying : CollectorView → Copying
copying v = record { slots = v.slots; chunks = v.chunks; offset = v.offset }

-- nothing was reported yet
pub record IsUnreported (v : CollectorView) : Type 0 where
  pub none : (c : ℕ) → is_set v.reported.bytes c ≡ false
  pub whole : v.spoiled ≡ false

-- how many reports counted
abbrev pub reports_of : CollectorView → ℕ
reports_of v = count_set v.reported.bytes v.reported.chunks

-- why a report does not count: the first reason that stands
abbrev pub report_refusal : CollectorView → ReportView → Option Refusal
report_refusal v r =
    cond v.spoiled (Some Spoiled)
    (cond (not (is_planned v.slots r.chunk r.source)) (Some Stranger)
    (cond (is_set v.reported.bytes r.chunk) (Some Double)
    (cond (not (has_length v.chunks r)) (Some Length) None)))

-- a collector before and after a report that counts
pub record IsCounted (chunk : ℕ) (old new : CollectorView) : Type 0 where
  pub kept : new ≡ record old { reported = new.reported }
  pub within : chunk < old.reported.chunks
  pub chunks : new.reported.chunks ≡ old.reported.chunks
  pub reported : (c : ℕ) → is_set new.reported.bytes c ≡ (c == chunk || is_set old.reported.bytes c)
