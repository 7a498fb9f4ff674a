-- A queue: a source, and the chunks that it reads one after another. Before and after its worker reads the next of them.
use Rattle.std.specs.Prelude.{◌≡◌, ℕ, ◌+◌, ◌-◌, ◌<◌, ◌≤◌, ◌++◌, ◌∷◌, [], Bool, true, false, List, length, min, Some, None, count_by, slice_index, slice_index_or, not, is_none}
use Rattle.md_device.specs.declared.device.Device.{Ghosts}
use Rattle.md_device.specs.declared.fault_list.Fault.{Fault}
use Rattle.md_device.specs.Failing.{EachNewFault}
use Rattle.md_bitmap.specs.declared.chunks.Chunks.{Chunks}
use Rattle.md_collect.specs.Places.{IsChunk, HasRoom, bytes_of_chunk}
use Rattle.md_collect.specs.Reading.{IsChunkOf, CountsFailure, FailsInChunk, IsReadOfChunk, LeavesContent}
use Rattle.md_collect.specs.Reports.{ReportView}
use Rattle.md_collect.specs.declared.workers.queue.Queue.{Queue}
use Rattle.md_collect.specs.Workers.Tally.{noted}
use Rattle.md_collect.specs.Workers.Waiting.{HasMemoryFor}

module _ {D : Type 0} (g : Ghosts D) where
  -- reads leave a device as it was, but that more of its calls may have failed; so does a crash within them
  pub record OnlyRead (old new : D) : Type 0 where
    pub content_kept : g.content new ≡ g.content old
    pub honest_kept : g.honest new ≡ g.honest old
    pub counted : g.failures old ≤ g.failures new
    pub reads_alone : EachNewFault (g.faults old) (g.faults new) (λ f. f.writes ≡ false)  -- of its calls no write failed
    pub crashes : LeavesContent g old new

  -- devices that were only read, in their order
  pub record AreOnlyRead (olds news : List D) : Type 0 where
    pub as_many : length news ≡ length olds
    pub each : (k : ℕ) (d : D) → k < length olds → OnlyRead (slice_index_or olds k d) (slice_index_or news k d)

  -- what a read of this chunk reports: the device's bytes there, or that it failed, where the device failed a read of nothing
  -- but bytes of this very chunk
  pub record IsReport (old new : D) (offset : ℕ) (chunks : Chunks) (chunk role : ℕ) (r : ReportView) : Type 0 where
    pub chunk_is : r.chunk ≡ chunk
    pub role_is : r.source ≡ role
    pub whole : (bytes : List ℕ) → r.bytes ≡ Some bytes → length bytes ≡ bytes_of_chunk chunks chunk
    pub delivered : (bytes : List ℕ) → r.bytes ≡ Some bytes → IsChunkOf g old offset chunks chunk bytes
    pub failed : r.bytes ≡ None → CountsFailure g old new
    pub failed_there : r.bytes ≡ None → FailsInChunk g old new offset chunks chunk

-- the source could not be read
abbrev pub is_failed : ReportView → Bool
is_failed r = is_none r.bytes

-- how many of a queue's slots were read
abbrev pub slots_read : {D L M : Type 0} → Queue D L M → ℕ
slots_read queue = queue.done + length queue.reports.waiting

-- a read of nothing but bytes of a slot's chunk, of which the report waits and says that it failed
pub record IsOfWaiting {D L M : Type 0} (chunks : Chunks) (queue : Queue D L M) (f : Fault) : Type 0 where
  pub place : ℕ
  pub waits : place < length queue.reports.waiting
  pub failed : (r : ReportView) → is_failed (slice_index_or queue.reports.waiting place r) ≡ true
  pub there : IsReadOfChunk queue.offset chunks (slice_index queue.chunks.items (queue.done + place)) f

module _ {D L M : Type 0} (g : Ghosts D) where
  -- A queue since it was `first`: slots were read, and the reports of some of them were taken. The reports of the others wait, in order. Its share has no slot more that
  -- was read, and as failed those whose report was taken and that could not be read, so many, and those that wait and could not. The device has
  -- counted at least as many failures.
  pub record HasRead (chunks : Chunks) (lost : ℕ) (first queue : Queue D L M) : Type 0 where
    pub kept : queue ≡ record first { device = queue.device; done = queue.done; share = queue.share; reports = record first.reports { waiting = queue.reports.waiting } }
    pub only_read : OnlyRead g first.device queue.device
    pub within : slots_read queue ≤ length first.chunks.items
    pub each : (i : ℕ) (r : ReportView) → i < length queue.reports.waiting
        → IsReport g first.device queue.device first.offset chunks (slice_index first.chunks.items (queue.done + i)) first.role (slice_index_or queue.reports.waiting i r)
    pub left : queue.share.left ≡ length first.chunks.items - slots_read queue
    pub failed : queue.share.failed ≡ first.share.failed + (lost + count_by is_failed queue.reports.waiting)
    pub risen : g.honest first.device ≡ true → g.failures first.device + queue.share.failed ≤ g.failures queue.device + first.share.failed
    pub parts : queue.share.parts ≡ first.share.parts

  -- its slots are chunks that lie on the device, and the share has those that were not read
  pub record MayReadOn (chunks : Chunks) (queue : Queue D L M) : Type 0 where
    pub room : HasRoom (g.content queue.device) queue.offset chunks
    pub chunk : (j : ℕ) → j < length queue.chunks.items → IsChunk chunks (slice_index queue.chunks.items j)
    pub within : slots_read queue ≤ length queue.chunks.items
    pub left : queue.share.left ≡ length queue.chunks.items - slots_read queue

  -- before a turn of at most so many slots: no report waits, and those of the turn have memory
  pub record IsReadyForTurn (chunks : Chunks) (most : ℕ) (queue : Queue D L M) : Type 0 where
    pub goes : MayReadOn chunks queue
    pub none_waits : queue.reports.waiting ≡ []
    pub memory : HasMemoryFor chunks (min most (length queue.chunks.items - queue.done)) queue.reports

  -- A queue before and after its worker: so many of its next slots were read, or as many as there were. No call failed but reads of those of them whose
  -- report says so.
  pub record HasWorked (chunks : Chunks) (most : ℕ) (old new : Queue D L M) : Type 0 where
    pub read : HasRead chunks 0 old new
    pub done : new.done ≡ old.done
    pub many : length new.reports.waiting ≡ min most (length old.chunks.items - old.done)
    pub only : EachNewFault (g.faults old.device) (g.faults new.device) (IsOfWaiting chunks new)

  -- the next slot was read, and noted on the share
  pub record IsSlotRead (chunks : Chunks) (old new : Queue D L M) : Type 0 where
    pub kept : new ≡ record old { device = new.device; share = new.share; reports = record old.reports { waiting = new.reports.waiting } }
    pub only_read : OnlyRead g old.device new.device
    pub within : slots_read old < length old.chunks.items
    pub report : ReportView
    pub reports : new.reports.waiting ≡ old.reports.waiting ++ report ∷ []
    pub share : new.share ≡ noted old.share (not (is_failed report))
    pub only : EachNewFault (g.faults old.device) (g.faults new.device) (λ f. (is_failed report ≡ true) × IsReadOfChunk old.offset chunks (slice_index old.chunks.items (slots_read old)) f)
    pub is : IsReport g old.device new.device old.offset chunks (slice_index old.chunks.items (slots_read old)) old.role report

  -- a queue before and after its next slot was read, and where there was none
  abbrev pub ReadsNextSlot : Chunks → Queue D L M → Queue D L M → Bool → Type 0
  ReadsNextSlot chunks old new true = IsSlotRead chunks old new
  ReadsNextSlot chunks old new false = (new ≡ old) × (length old.chunks.items ≤ slots_read old)
