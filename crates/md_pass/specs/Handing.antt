-- What the collector has of each queue: reports of slots that come before those that the queue reads meanwhile.
use Rattle.std.specs.Prelude.{◌≡◌, ℕ, ◌-◌, ◌<◌, ◌≤◌, ◌∷◌, [], Bool, List, length, min, slice_index_or}
use Rattle.std.specs.List.{All}
use Rattle.md_device.specs.declared.device.Device.{Ghosts}
use Rattle.md_bitmap.specs.declared.chunks.Chunks.{Chunks}
use Rattle.md_streams.specs.declared.gate.Gate.{Ghosts as GateGhosts}
use Rattle.md_collect.specs.declared.workers.queue.Queue.{Queue}
use Rattle.md_collect.specs.Workers.Gates.{IsToldOfReads}
use Rattle.md_collect.specs.Workers.Queues.{HasWorked, slots_read}
use Rattle.md_collect.specs.Workers.Waiting.{HasMemoryFor, WaitingView}
use Rattle.md_pass.specs.TakingReports.{Books}
use Rattle.md_pass.specs.Passes.{IsPassing}

module _ {D L M : Type 0} where
  -- a queue whose reports were handed over for others
  abbrev pub handed : Queue D L M → WaitingView → Queue D L M
  handed queue reports = record queue { done = slots_read queue; reports = reports }

  -- each queue's reports were
  pub record HandsOver (queues queues' : List (Queue D L M)) (waits waits' : List WaitingView) : Type 0 where
    pub as_many : length queues' ≡ length queues
    pub waits_as_many : length waits' ≡ length waits
    pub queues_are : (k : ℕ) (q : Queue D L M) (w : WaitingView) → k < length queues → slice_index_or queues' k q ≡ handed (slice_index_or queues k q) (slice_index_or waits k w)
    pub waits_are : (k : ℕ) (q : Queue D L M) (w : WaitingView) → k < length queues → slice_index_or waits' k w ≡ (slice_index_or queues k q).reports

  -- the queue as if the collector did not have these reports
  abbrev pub with_reports : Queue D L M → WaitingView → Queue D L M
  with_reports queue reports = record queue { done = queue.done - length reports.waiting; reports = record queue.reports { waiting = reports.waiting } }

  abbrev pub all_with_reports : List (Queue D L M) → List WaitingView → List (Queue D L M)
  all_with_reports [] waits = []
  all_with_reports (queue ∷ queues) [] = []
  all_with_reports (queue ∷ queues) (reports ∷ waits) = with_reports queue reports ∷ all_with_reports queues waits

  -- the collector has reports of each queue, no more than it handed over
  pub record AreHanded (queues : List (Queue D L M)) (waits : List WaitingView) : Type 0 where
    pub as_many : length waits ≡ length queues
    pub within : (k : ℕ) (q : Queue D L M) (w : WaitingView) → k < length queues → length (slice_index_or waits k w).waiting ≤ (slice_index_or queues k q).done

  -- Memory for the turns to come: that for the next turn lies with the collector, which has no report; that for the one after it lies in the queue.
  pub record HaveMemory (chunks : Chunks) (most : ℕ) (queues : List (Queue D L M)) (waits : List WaitingView) : Type 0 where
    pub as_many : length waits ≡ length queues
    pub idle : All (λ reports. reports.waiting ≡ []) waits
    pub next : (k : ℕ) (q : Queue D L M) (w : WaitingView) → k < length queues
        → HasMemoryFor chunks (min most (length (slice_index_or queues k q).chunks.items - slots_read (slice_index_or queues k q))) (slice_index_or waits k w)
    pub later : (k : ℕ) (q : Queue D L M) → k < length queues
        → HasMemoryFor chunks (min most (length (slice_index_or queues k q).chunks.items - slots_read (slice_index_or queues k q) - most)) (slice_index_or queues k q).reports

  -- each queue before and after its worker, of whose reads the gate was told
  pub record HaveRead {G : Type 0} (g : Ghosts D) (t : GateGhosts G) (gate : G) (chunks : Chunks) (most : ℕ) (olds news : List (Queue D L M)) : Type 0 where
    pub as_many : length news ≡ length olds
    pub worked : (k : ℕ) (d : Queue D L M) → k < length olds → HasWorked g chunks most (slice_index_or olds k d) (slice_index_or news k d)
    pub told : (k : ℕ) (d : Queue D L M) → k < length olds → IsToldOfReads t gate (slice_index_or olds k d) (slice_index_or news k d)

-- What the collector has and its books, before and after it took reports: a pass that is under way goes on.
pub record HaveTakenReports {D : Type 0} (g : Ghosts D) (L M : Type 0) (honest : Bool) (old new : Books) (olds news : List WaitingView) : Type 0 where
  pub as_many : length news ≡ length olds
  pub kept : (k : ℕ) (d : WaitingView) → k < length olds → slice_index_or news k d ≡ record (slice_index_or olds k d) { waiting = (slice_index_or news k d).waiting }
  pub fewer : (k : ℕ) (d : WaitingView) → k < length olds → length (slice_index_or news k d).waiting ≤ length (slice_index_or olds k d).waiting
  pub passing : (firsts queues : List (Queue D L M)) (first : Books) → AreHanded queues olds → IsPassing g honest firsts (all_with_reports queues olds) first old
      → IsPassing g honest firsts (all_with_reports queues news) first new
