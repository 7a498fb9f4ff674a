-- What a gate is told of reads.
use Rattle.std.specs.Prelude.{ℕ, ◌<◌, ◌≤◌, slice_index}
use Rattle.md_streams.specs.declared.gate.Gate.{Ghosts}
use Rattle.md_collect.specs.declared.workers.queue.Queue.{Queue}
use Rattle.md_collect.specs.Workers.Queues.{slots_read}

module _ {G : Type 0} (t : Ghosts G) (gate : G) where
  -- that a read of this chunk of the member in this role begins, and that it has ended
  pub record IsTold (role chunk : ℕ) : Type 0 where
    pub begins : t.read_begins gate role chunk
    pub ended : t.read_ended gate role chunk

  -- it is told of each slot of a queue that was read in between
  abbrev pub IsToldOfReads : {D L M : Type 0} → Queue D L M → Queue D L M → Type 0
  IsToldOfReads old new = (j : ℕ) → slots_read old ≤ j → j < slots_read new → IsTold old.role (slice_index old.chunks.items j)
