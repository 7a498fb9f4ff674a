-- What stands between two steps of a pass, and what becomes of it when a report is taken.
use Rattle.std.specs.Prelude.{◌≡◌, ℕ, ◌<◌, ◌==◌, ◌||◌, ◌&&◌, ◌∷◌, [], Bool, true, List, Some, None, not}
use Rattle.md_bitmap.specs.Marks.{Bitmap, is_set}
use Rattle.md_collect.specs.Places.{IsChunk, with_chunk}
use Rattle.md_collect.specs.Reports.{ReportView}
use Rattle.md_collect.specs.Collecting.{CollectorView, report_refusal, IsCounted}
use Rattle.md_collect.specs.Targets.{ChangesChunk}
use Rattle.md_pass.specs.Beside.{has_chunk}
use Rattle.md_collect.specs.Workers.Queues.{is_failed}
use Rattle.md_collect.specs.Workers.Waiting.{WaitingView}

-- the collector, what stands on the target, and the chunks that were copied
pub record Books : Type 0 where
  pub collector : CollectorView
  pub target : List ℕ
  pub copied : Bitmap

abbrev pub books : CollectorView → List ℕ → Bitmap → Books
books collector target copied = record { collector = collector; target = target; copied = copied }

-- a set of chunks, with one more where its bytes were delivered
pub record IsMarkedIfDelivered (delivered : Bool) (chunk : ℕ) (old new : Bitmap) : Type 0 where
  pub chunks : new.chunks ≡ old.chunks
  pub bits : (c : ℕ) → is_set new.bytes c ≡ ((delivered && c == chunk) || is_set old.bytes c)

-- the collector will take the first of these reports
pub record IsAllowed (collector : CollectorView) (copied : Bitmap) (waiting : List ReportView) : Type 0 where
  pub counts : (r : ReportView) (rest : List ReportView) → waiting ≡ r ∷ rest → report_refusal collector r ≡ None
  pub planned : (r : ReportView) (rest : List ReportView) → waiting ≡ r ∷ rest → has_chunk collector.slots r.chunk ≡ true
  pub within : (r : ReportView) (rest : List ReportView) → waiting ≡ r ∷ rest → IsChunk collector.chunks r.chunk
  pub chunk : (r : ReportView) (rest : List ReportView) → waiting ≡ r ∷ rest → r.chunk < copied.chunks

-- A report was taken. The bytes of one that was delivered stand on the target, and its chunk is marked.
pub record IsReportTaken (honest : Bool) (old new : Books) (r : ReportView) : Type 0 where
  pub counted : IsCounted r.chunk old.collector new.collector
  pub marked : IsMarkedIfDelivered (not (is_failed r)) r.chunk old.copied new.copied
  pub changes : ChangesChunk old.collector r.chunk old.target new.target
  pub unwritten : is_failed r ≡ true → new.target ≡ old.target
  pub holds : (bytes : List ℕ) → r.bytes ≡ Some bytes → honest ≡ true → new.target ≡ with_chunk old.target old.collector.offset old.collector.chunks r.chunk bytes

-- books and reports before and after the first of those that wait is taken
abbrev pub AreReportsTaken : Bool → Books → Books → WaitingView → WaitingView → List ReportView → Type 0
AreReportsTaken honest old new reports reports' [] = (new ≡ old) × (reports' ≡ reports)
AreReportsTaken honest old new reports reports' (r ∷ rest) = IsReportTaken honest old new r × (reports' ≡ record reports { waiting = rest })
