-- The reports of a queue that wait for the collector, and memory for further ones.
use Rattle.std.specs.Prelude.{◌≡◌, ◌+◌, ◌≤◌, ◌++◌, ◌∷◌, [], ℕ, Bool, List, length, not, is_none, vec_capacity}
use Rattle.std.specs.List.{All}
use Rattle.std_alloc.specs.VecDeque.{deque_capacity}
use Rattle.std_alloc.specs.declared.vec.Vec.{Vec}
use Rattle.std_alloc.specs.declared.vec.deque.VecDeque.{VecDeque}
use Rattle.md_device.specs.declared.device.Device.{Ghosts}
use Rattle.md_bitmap.specs.declared.chunks.Chunks.{Chunks}
use Rattle.md_collect.specs.Places.{IsChunk, bytes_of_chunk}
use Rattle.md_collect.specs.Reading.{ReportsChunk}
use Rattle.md_collect.specs.Reports.{ReportView}

pub record WaitingView : Type 0 where
  pub waiting : List ReportView  -- in the order in which their chunks were read
  pub room : ℕ  -- how many reports have memory, those that wait with the others
  pub longest : ℕ  -- for so many bytes at least

-- Each report that waits has memory for so many bytes, and so has each list that is spare; both lists have room for all of them.
pub record HaveMemory {X Z W : Type 0} (waiting : VecDeque ReportView W) (spares : Vec (Vec X Z) W) (longest : ℕ) : Type 0 where
  pub used : All (λ r. longest ≤ r.room) waiting.items
  pub unused : All (λ spare. longest ≤ vec_capacity spare) spares.items
  pub waits : length waiting.items + length spares.items ≤ deque_capacity waiting
  pub fits : length waiting.items + length spares.items ≤ vec_capacity spares

-- memory for so many reports, of whatever chunks
pub record HasMemoryFor (chunks : Chunks) (many : ℕ) (reports : WaitingView) : Type 0 where
  pub room : many ≤ reports.room
  pub long : (c : ℕ) → IsChunk chunks c → bytes_of_chunk chunks c ≤ reports.longest

-- a chunk was read, and its report waits, the last
pub record ReadsOneMore {D : Type 0} (g : Ghosts D) (before after : D) (source offset : ℕ) (chunks : Chunks) (chunk : ℕ) (old new : WaitingView) (delivered : Bool) : Type 0 where
  pub report : ReportView
  pub waits : new ≡ record old { waiting = old.waiting ++ report ∷ [] }
  pub told : delivered ≡ not (is_none report.bytes)
  pub reads : ReportsChunk g before after source offset chunks chunk report
