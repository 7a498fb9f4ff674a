-- Copy events: what is reported of planned chunks, and which reports count.
use Rattle.std.specs.Prelude.{ℕ, Bool, true, List, [], ◌∷◌, ◌++◌, Option, Some, None, ◌==◌, ◌&&◌, not, cond, length, vec_capacity}
use Rattle.std.specs.List.{list_any}
use Rattle.std_alloc.specs.declared.vec.Vec.{Vec}
use Rattle.md_cert.specs.declared.slots.Slot.{Slot}
use Rattle.md_bitmap.specs.declared.chunks.Chunks.{Chunks}
use Rattle.md_collect.specs.Places.{bytes_of_chunk, with_chunk}

-- a chunk's bytes from a source, or none where it could not be read
pub record ReportView : Type 0 where
  pub chunk : ℕ
  pub source : ℕ
  pub bytes : Option (List ℕ)
  pub room : ℕ  -- for how many bytes it has memory

-- For how many bytes a report has memory: in the list of its bytes, or in the one that a read that failed left.
abbrev pub room_of : {X Z : Type 0} → Option (Vec X Z) → Option (Vec X Z) → ℕ
room_of (Some bytes) unused = vec_capacity bytes
room_of None (Some unused) = vec_capacity unused
room_of None None = 0

-- what is copied, and where to
pub record Copying : Type 0 where
  pub slots : List Slot  -- what the plan reads
  pub chunks : Chunks
  pub offset : ℕ  -- the target's first sector of data

-- the plan reads the chunk from the source
abbrev pub is_planned : List Slot → ℕ → ℕ → Bool
is_planned slots chunk source = list_any (λ slot. slot.chunk == chunk && slot.source == source) slots

-- delivered bytes have the chunk's length
abbrev pub has_length : Chunks → ReportView → Bool
has_length chunks r = by_bytes r.bytes
  where
    by_bytes : Option (List ℕ) → Bool
    by_bytes None = true
    by_bytes (Some bytes) = length bytes == bytes_of_chunk chunks r.chunk

-- One of these reports has the chunk.
abbrev pub is_among : List ReportView → ℕ → Bool
is_among reports chunk = list_any (λ (r : ReportView). r.chunk == chunk) reports

-- A report counts when its chunk is planned from that source, no earlier counted report has the chunk, and delivered bytes have
-- the chunk's length.
abbrev pub counts : Copying → List ReportView → ReportView → Bool
counts copy earlier r = is_planned copy.slots r.chunk r.source && (not (is_among earlier r.chunk) && has_length copy.chunks r)

-- The reports that have counted, and after them those of the list that count.
unfoldable pub counted_after : Copying → List ReportView → List ReportView → List ReportView
counted_after copy earlier [] = earlier
counted_after copy earlier (r ∷ rs) = counted_after copy (cond (counts copy earlier r) (earlier ++ (r ∷ [])) earlier) rs

abbrev pub counted_reports : Copying → List ReportView → List ReportView
counted_reports copy reports = counted_after copy [] reports

-- the target with the bytes of a counted report
abbrev pub with_report : Copying → List ℕ → ReportView → List ℕ
with_report copy target r = by_bytes r.bytes
  where
    by_bytes : Option (List ℕ) → List ℕ
    by_bytes None = target
    by_bytes (Some bytes) = with_chunk target copy.offset copy.chunks r.chunk bytes

-- the target after counted reports: each delivery's bytes stand in its chunk
unfoldable pub with_all : Copying → List ℕ → List ReportView → List ℕ
with_all copy target [] = target
with_all copy target (r ∷ rs) = with_all copy (with_report copy target r) rs
