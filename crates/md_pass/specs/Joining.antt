-- Chunks that lie together on the target wait until one write takes them. What the target holds once it is made.
use Rattle.std.specs.Prelude.{◌≡◌, ◌⊎◌, ℕ, ◌+◌, ◌*◌, ◌<◌, ◌≤◌, ◌==◌, ◌++◌, ◌∷◌, [], Bool, true, false, List, None, Some, cond, length, not, slice_index_or, sum_by}
use Rattle.md_device.specs.Splice.{SameOutside}
use Rattle.md_device.specs.Device.{written}
use Rattle.md_device.specs.Crashes.{LeavesMore}
use Rattle.md_device.specs.Failing.{OnlyWritesFailed}
use Rattle.md_device.specs.declared.device.Device.{Ghosts}
use Rattle.md_bitmap.specs.declared.chunks.Chunks.{Chunks}
use Rattle.md_bitmap.specs.Marks.{Bitmap, is_set}
use Rattle.md_collect.specs.Places.{start_of}
use Rattle.md_collect.specs.Reports.{ReportView, with_report}
use Rattle.md_collect.specs.Collecting.{CollectorView, copying}
use Rattle.md_collect.specs.Targets.{ChangesChunk}
use Rattle.md_collect.specs.declared.workers.queue.Queue.{Queue}
use Rattle.md_collect.specs.Workers.Queues.{is_failed}
use Rattle.md_collect.specs.Workers.Waiting.{WaitingView}
use Rattle.md_pass.specs.Beside.{LiesBesideChunk}
use Rattle.md_pass.specs.TakingReports.{Books, books}
use Rattle.md_pass.specs.Handing.{AreHanded, all_with_reports}
use Rattle.md_pass.specs.Passes.{IsPassing}

pub record JoinedView : Type 0 where
  pub start : ℕ  -- the sector from which on they are to stand
  pub run : List ℕ  -- the bytes

abbrev pub none_joined : JoinedView
none_joined = record { start = 0; run = [] }

-- the content with what waits in its place
abbrev pub as_if_written : List ℕ → JoinedView → List ℕ
as_if_written content joined = written content joined.start joined.run

-- what waits has its place on the target
abbrev pub FitsOn : List ℕ → JoinedView → Type 0
FitsOn content joined = 512 * joined.start + length joined.run ≤ length content

-- nothing waits, or these bytes from a sector on are few and lie behind it
abbrev pub Follows : JoinedView → ℕ → List ℕ → Type 0
Follows joined sector bytes =
    (joined.run ≡ []) ⊎ ((512 * sector ≡ 512 * joined.start + length joined.run) × (length joined.run + length bytes ≤ 262144) × (length bytes < 65536))

-- these bytes wait with it
abbrev pub joined_with : JoinedView → ℕ → List ℕ → JoinedView
joined_with joined sector bytes = record { start = cond (length joined.run == 0) sector joined.start; run = joined.run ++ bytes }

-- the bytes of a report are such, where it has any
abbrev pub IsFollowed : CollectorView → JoinedView → ReportView → Type 0
IsFollowed collector joined r = (bytes : List ℕ) → r.bytes ≡ Some bytes → Follows joined (collector.offset + start_of collector.chunks r.chunk) bytes

-- of the report that waits first, if one waits
abbrev pub IsFollowedFirst : CollectorView → JoinedView → List ReportView → Type 0
IsFollowedFirst collector joined waiting = (r : ReportView) (rest : List ReportView) → waiting ≡ r ∷ rest → IsFollowed collector joined r

-- m bytes from a place on lie beside what waits, if anything does
abbrev pub LiesBesideJoined : ℕ → ℕ → JoinedView → Type 0
LiesBesideJoined at m joined = 0 < length joined.run → (at + m ≤ 512 * joined.start) ⊎ (512 * joined.start + length joined.run ≤ at)

-- no more waits than before, but for the chunk where its bytes were delivered
abbrev pub GrowsByChunk : CollectorView → ℕ → Bool → JoinedView → JoinedView → Type 0
GrowsByChunk v chunk delivered old new =
    (at m : ℕ) → 0 < m → LiesBesideJoined at m old → (delivered ≡ true → LiesBesideChunk v.chunks v.offset at m chunk) → LiesBesideJoined at m new

-- no more waits than before, but for the chunk of the report that waits first
abbrev pub GrowsByFirst : CollectorView → List ReportView → JoinedView → JoinedView → Type 0
GrowsByFirst v [] old new = new ≡ old
GrowsByFirst v (r ∷ rest) old new = GrowsByChunk v r.chunk (not (is_failed r)) old new

-- A report was taken: its bytes wait, or stand in their chunk.
pub record TakesOneReport (honest : Bool) (v : CollectorView) (r : ReportView) (content content' : List ℕ) (joined joined' : JoinedView) : Type 0 where
  pub changes : ChangesChunk v r.chunk (as_if_written content joined) (as_if_written content' joined')
  pub unwritten : r.bytes ≡ None → as_if_written content' joined' ≡ as_if_written content joined
  pub holds : honest ≡ true → as_if_written content' joined' ≡ with_report (copying v) (as_if_written content joined) r
  pub fits : FitsOn content' joined'
  pub grows : GrowsByChunk v r.chunk (not (is_failed r)) joined joined'

-- nothing waits but bytes of the chunks that were copied in between
abbrev pub AreOfCopied : Chunks → ℕ → Bitmap → Bitmap → JoinedView → Type 0
AreOfCopied chunks offset before after joined =
    (at m : ℕ) → 0 < m → ((c : ℕ) → is_set after.bytes c ≡ true → is_set before.bytes c ≡ false → LiesBesideChunk chunks offset at m c) → LiesBesideJoined at m joined

-- a device before and after a write of n bytes from a place on, whatever the answer is
pub record WritesWithin {D : Type 0} (g : Ghosts D) (at n : ℕ) (old new : D) : Type 0 where
  pub outside : SameOutside at n (g.content old) (g.content new)
  pub honest_kept : g.honest new ≡ g.honest old
  pub counted : g.failures old ≤ g.failures new
  pub writes_alone : OnlyWritesFailed (g.faults old) (g.faults new)
  pub crashes : g.honest old ≡ true → LeavesMore (g.crashes old) (g.crashes new) (SameOutside at n (g.content old))

-- books, and what waits to be written: the marks of its chunks are set
pub record Stage : Type 0 where
  pub collector : CollectorView
  pub target : List ℕ
  pub joined : JoinedView
  pub copied : Bitmap

abbrev pub stage_of : CollectorView → List ℕ → JoinedView → Bitmap → Stage
stage_of collector target joined copied = record { collector = collector; target = target; joined = joined; copied = copied }

-- the books once it is written
abbrev pub books_of : Stage → Books
books_of s = books s.collector (as_if_written s.target s.joined) s.copied

-- a pass as it began, and now that chunks wait to be written
pub record IsPassJoining {D L M : Type 0} (g : Ghosts D) (honest : Bool) (firsts queues : List (Queue D L M)) (first : Books) (now : Stage) : Type 0 where
  pub passing : IsPassing g honest firsts queues first (books_of now)
  pub covered : AreOfCopied now.collector.chunks now.collector.offset first.copied now.copied now.joined
  pub fits : FitsOn now.target now.joined

-- What the collector has and its books, before and after it took reports: a pass that is under way goes on.
pub record HaveJoinedReports {D : Type 0} (g : Ghosts D) (L M : Type 0) (honest : Bool) (old new : Stage) (olds news : List WaitingView) : Type 0 where
  pub as_many : length news ≡ length olds
  pub kept : (k : ℕ) (d : WaitingView) → k < length olds → slice_index_or news k d ≡ record (slice_index_or olds k d) { waiting = (slice_index_or news k d).waiting }
  pub fewer : (k : ℕ) (d : WaitingView) → k < length olds → length (slice_index_or news k d).waiting ≤ length (slice_index_or olds k d).waiting
  pub joining : (firsts queues : List (Queue D L M)) (first : Books) → AreHanded queues olds → IsPassJoining g honest firsts (all_with_reports queues olds) first old
      → IsPassJoining g honest firsts (all_with_reports queues news) first new

-- reports of which none waits
abbrev pub none_waiting : WaitingView
none_waiting = record { waiting = []; room = 0; longest = 0 }

-- how many reports wait in all
abbrev pub total_waiting : List WaitingView → ℕ
total_waiting waits = sum_by (λ reports. length reports.waiting) waits
