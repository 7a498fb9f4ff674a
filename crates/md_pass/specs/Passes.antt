-- A pass: its queues and its books, as it began and now.
use Rattle.std.specs.Prelude.{◌≡◌, ◌⊎◌, ℕ, ◌<◌, ◌≤◌, Bool, true, false, [], List, length, slice_index, slice_index_or, count_by, take, not}
use Rattle.md_device.specs.declared.device.Device.{Ghosts}
use Rattle.md_device.specs.declared.fault_list.Fault.{Fault}
use Rattle.md_device.specs.Failing.{EachNewFault}
use Rattle.md_bitmap.specs.Marks.{Bitmap, is_set}
use Rattle.md_collect.specs.Places.{IsChunk, HasRoom, chunk_on}
use Rattle.md_collect.specs.Reading.{FailsInChunk, IsReadOfChunk}
use Rattle.md_collect.specs.Reports.{is_planned}
use Rattle.md_collect.specs.Collecting.{copying}
use Rattle.md_collect.specs.declared.workers.queue.Queue.{Queue}
use Rattle.md_pass.specs.Beside.{SameBesideCopied, has_chunk}
use Rattle.md_collect.specs.Workers.Queues.{HasRead, IsOfWaiting, OnlyRead}
use Rattle.md_pass.specs.TakingReports.{Books}

-- The chunk was not copied.
abbrev pub is_left : Bitmap → ℕ → Bool
is_left copied c = not (is_set copied.bytes c)

-- How many of the first n of these chunks were not copied.
abbrev pub count_left : Bitmap → List ℕ → ℕ → ℕ
count_left copied chunks n = count_by (is_left copied) (take n chunks)

-- Books as a pass began, and now. What was reported since was planned, and what was copied since was reported.
pub record HasBooks (first now : Books) : Type 0 where
  pub same_copy : copying now.collector ≡ copying first.collector
  pub whole : now.collector.spoiled ≡ false
  pub size : length now.target ≡ length first.target
  pub planned : (c : ℕ) → is_set now.collector.reported.bytes c ≡ true → has_chunk first.collector.slots c ≡ true
  pub count : now.copied.chunks ≡ first.copied.chunks
  pub kept : (c : ℕ) → is_set first.copied.bytes c ≡ true → is_set now.copied.bytes c ≡ true
  pub marks : (c : ℕ) → is_set now.copied.bytes c ≡ true → is_set first.copied.bytes c ≡ false → is_set now.collector.reported.bytes c ≡ true
  pub beside : SameBesideCopied first.collector.chunks first.collector.offset first.copied now.copied first.target now.target

module _ {D L M : Type 0} where
  -- each chunk stands in one queue, once
  abbrev pub AreChunksApart : List (Queue D L M) → Type 0
  AreChunksApart queues =
      (k m i j : ℕ) (d : Queue D L M) → k < length queues → m < length queues
      → i < length (slice_index_or queues k d).chunks.items → j < length (slice_index_or queues m d).chunks.items
      → slice_index (slice_index_or queues k d).chunks.items i ≡ slice_index (slice_index_or queues m d).chunks.items j → (k ≡ m) × (i ≡ j)

-- a read of nothing but bytes of a slot's chunk, whose report was taken and which was not copied
pub record IsOfTaken {D L M : Type 0} (now : Books) (first queue : Queue D L M) (f : Fault) : Type 0 where
  pub slot : ℕ
  pub taken : slot < queue.done
  pub uncopied : is_set now.copied.bytes (slice_index first.chunks.items slot) ≡ false
  pub there : IsReadOfChunk first.offset now.collector.chunks (slice_index first.chunks.items slot) f

module _ {D L M : Type 0} (g : Ghosts D) where
  -- a queue as a pass begins
  pub record IsAtStart (first : Books) (queue : Queue D L M) : Type 0 where
    pub room : HasRoom (g.content queue.device) queue.offset first.collector.chunks
    pub planned : (j : ℕ) → j < length queue.chunks.items → is_planned first.collector.slots (slice_index queue.chunks.items j) queue.role ≡ true
    pub chunk : (j : ℕ) → j < length queue.chunks.items → IsChunk first.collector.chunks (slice_index queue.chunks.items j)
    pub unreported : (j : ℕ) → j < length queue.chunks.items → is_set first.collector.reported.bytes (slice_index queue.chunks.items j) ≡ false
    pub uncopied : (j : ℕ) → j < length queue.chunks.items → is_set first.copied.bytes (slice_index queue.chunks.items j) ≡ false
    pub none_done : queue.done ≡ 0
    pub none_waits : queue.reports.waiting ≡ []
    pub left : queue.share.left ≡ length queue.chunks.items
    pub none_failed : queue.share.failed ≡ 0

  -- a chunk was reported, and where it was copied, the target has in it what the source has
  pub record HasLanded (honest : Bool) (now : Books) (first : Queue D L M) (c : ℕ) : Type 0 where
    pub reported : is_set now.collector.reported.bytes c ≡ true
    pub holds : is_set now.copied.bytes c ≡ true → g.honest first.device ≡ true → honest ≡ true
        → chunk_on now.target now.collector.offset now.collector.chunks c ≡ chunk_on (g.content first.device) first.offset now.collector.chunks c

  -- a queue as the pass began, and now: its reports may lie in other memory
  pub record IsUnderWay (honest : Bool) (now : Books) (first queue : Queue D L M) : Type 0 where
    pub read : HasRead g now.collector.chunks (count_left now.copied first.chunks.items queue.done) (record first { reports = record queue.reports { waiting = [] } }) queue
    pub landed : (j : ℕ) → j < queue.done → HasLanded honest now first (slice_index first.chunks.items j)
    pub failed : (j : ℕ) → j < queue.done → is_set now.copied.bytes (slice_index first.chunks.items j) ≡ false
        → FailsInChunk g first.device queue.device first.offset now.collector.chunks (slice_index first.chunks.items j)
    pub only : EachNewFault (g.faults first.device) (g.faults queue.device) (λ f. IsOfTaken now first queue f ⊎ IsOfWaiting now.collector.chunks queue f)
    pub waiting : (j : ℕ) → queue.done ≤ j → j < length first.chunks.items → is_set now.collector.reported.bytes (slice_index first.chunks.items j) ≡ false

  -- a pass as it began, and now
  pub record IsPassing (honest : Bool) (firsts queues : List (Queue D L M)) (first now : Books) : Type 0 where
    pub begins : (k : ℕ) (d : Queue D L M) → k < length firsts → IsAtStart first (slice_index_or firsts k d)
    pub apart : AreChunksApart firsts
    pub room : HasRoom first.target first.collector.offset first.collector.chunks
    pub covers : (c : ℕ) → IsChunk first.collector.chunks c → c < first.copied.chunks
    pub as_many : length queues ≡ length firsts
    pub each : (k : ℕ) (d : Queue D L M) → k < length firsts → IsUnderWay honest now (slice_index_or firsts k d) (slice_index_or queues k d)
    pub books : HasBooks first now

  -- queues whose sources were only read
  pub record QueuesOnlyRead (firsts queues : List (Queue D L M)) : Type 0 where
    pub as_many : length queues ≡ length firsts
    pub each : (k : ℕ) (d : Queue D L M) → k < length firsts → OnlyRead g (slice_index_or firsts k d).device (slice_index_or queues k d).device
