-- Writes that wait in memory because they lie together. They are told of at once, as the NBD protocol has it, and stand once a flush
-- was answered, or the end of the session.
use Rattle.std.specs.Prelude.{◌≡◌, ◌⊎◌, ℕ, ◌+◌, ◌*◌, ◌/◌, ◌%◌, ◌≤◌, Bool, true, false, List, [], ◌++◌, length}
use Rattle.md_inflight.specs.Requests.Pending.{PendingView}
use Rattle.md_faults.specs.declared.step_fault.BeginFault.{BeginFault}
use Rattle.md_faults.specs.declared.step_fault.BeginFault.TheVariants as begin
use Rattle.md_state.specs.Requests.{IsPending}
use Rattle.md_state.specs.Trying.{RefusesHalted}
use Rattle.md_state.specs.View.{MirrorView}
use Rattle.md_metadata.specs.declared.stop_fault.StopFault.{StopFault}
use Rattle.md_metadata.specs.declared.stop_fault.StopFault.TheVariants as stop
use Rattle.md_metadata.specs.Stopping.{RefusesStop, StopsMirror}
use Rattle.md_read.specs.declared.fault.UnreadFault.{UnreadFault}
use Rattle.md_read.specs.declared.fault.UnreadFault.TheVariants as unread
use Rattle.md_read.specs.Reading.{Reads, RefusesRead}
use Rattle.md_write.specs.Writing.{RefusesWrite, Writes}
use Rattle.md_array.specs.Consistency.{IsConsistent}
use Rattle.md_nbd.specs.Export.{sector_bytes}
use Rattle.md_nbd.specs.declared.server.store.Store.{Ghosts as Stores}
use Rattle.md_nbd.specs.declared.server.store.StoreFault.{StoreFault}
use Rattle.md_nbd.specs.declared.server.store.StoreFault.TheVariants.{Halted, Lacks, NoMemory, NotRead, NotWritten}
use Rattle.md_serve_commands.specs.declared.writer.ArrayWriter.{ArrayWriter}

-- ---- what is done of the mirror
-- requests in flight stay so
abbrev pub KeepsPending : MirrorView → MirrorView → Type 0
KeepsPending old new = (p : PendingView) → IsPending old.array p → IsPending new.array p

module _ (old new : MirrorView) where
  abbrev pub GivesSectors : ℕ → List ℕ → Type 0
  GivesSectors sector bytes = Reads sector bytes old new × KeepsPending old new

  -- So many sectors were not read, for some fault.
  pub record FailsToGive (sector sectors : ℕ) : Type 0 where
    pub fault : UnreadFault
    pub bytes : List ℕ
    pub as_many : length bytes ≡ sector_bytes * sectors
    pub refused : RefusesRead sector bytes old new fault
    pub pending : KeepsPending old new

  abbrev pub WritesSectors : ℕ → List ℕ → Type 0
  WritesSectors sector bytes = Writes sector bytes old new × KeepsPending old new

  -- The bytes were not written, or not surely, for some fault.
  pub record FailsToWrite (sector : ℕ) (bytes : List ℕ) : Type 0 where
    pub fault : BeginFault
    pub refused : RefusesWrite sector bytes old new fault
    pub pending : KeepsPending old new

  -- The marks were not cleared, or not all, but the mirror is not halted.
  abbrev pub RunsOn : StopFault → Type 0
  RunsOn stop.Halted = ⊥
  RunsOn fault = RefusesStop old new fault

  -- All that was written stands already. The array was stopped, by which it has no marks, unless it is degraded; or it was not.
  pub record ClearsMarks : Type 0 where
    pub running : old.array.halted ≡ false
    pub stops : StopsMirror old new ⊎ ((fault : StopFault) × RunsOn fault)
    pub pending : KeepsPending old new

  -- The mirror was halted, or is halted by this.
  abbrev pub FailsToClear : Type 0
  FailsToClear =
      (RefusesHalted old new ⊎ ((old.array.halted ≡ false) × RefusesStop old new stop.Halted))
      × KeepsPending old new

-- ---- what waits
-- What waits is whole sectors, which lie in the array.
pub record WaitsWithin (w : ArrayWriter) : Type 0 where
  pub whole : length w.run.items % 512 ≡ 0
  pub fits : w.start + length w.run.items / 512 ≤ w.sectors

-- Nothing waits yet.
pub record IsFreshWriter (size : ℕ) (w : ArrayWriter) : Type 0 where
  pub sectors : w.sectors ≡ size
  pub none : w.run.items ≡ []
  pub within : WaitsWithin w

-- What waits is as it was.
pub record StillWaits (old new : ArrayWriter) : Type 0 where
  pub start : new.start ≡ old.start
  pub run : new.run.items ≡ old.run.items

-- These bytes wait behind what waits.
pub record HasJoined (bytes : List ℕ) (old new : ArrayWriter) : Type 0 where
  pub start : new.start ≡ old.start
  pub run : new.run.items ≡ old.run.items ++ bytes

-- Nothing waits, or what waits was written, by one write.
abbrev pub WritesWaiting : ArrayWriter → MirrorView → MirrorView → Type 0
WritesWaiting w old new = ((w.run.items ≡ []) × (new ≡ old)) ⊎ WritesSectors old new w.start w.run.items

-- What waits was not written, or not surely.
pub record RefusesWaiting (w : ArrayWriter) (old new : MirrorView) (fault : BeginFault) : Type 0 where
  pub refused : RefusesWrite w.start w.run.items old new fault
  pub pending : KeepsPending old new

-- ---- what a client's server is told of a fault
abbrev pub unwritten_fault : BeginFault → StoreFault
unwritten_fault begin.Halted = Halted
unwritten_fault begin.NoMemory = NoMemory
unwritten_fault fault = NotWritten

abbrev pub unread_fault : UnreadFault → StoreFault
unread_fault unread.Halted = Halted
unread_fault (unread.Unreadable sector) = Lacks sector
unread_fault fault = NotRead

module _ (p q : ArrayWriter × MirrorView) where
  -- What waited was not written, or not surely, and waits still.
  pub record FailsWaiting : Type 0 where
    pub fault : BeginFault
    pub refused : RefusesWaiting p.0 p.1 q.1 fault
    pub still : StillWaits p.0 q.0

  -- What waited was not written for this reason, and waits still.
  pub record FailsWaitingFor (why : StoreFault) : Type 0 where
    pub fails : FailsWaiting
    pub is : why ≡ unwritten_fault fails.fault

  -- Nothing was done, and what waited waits still.
  pub record LeavesAll : Type 0 where
    pub mirror : q.1 ≡ p.1
    pub still : StillWaits p.0 q.0

  -- Nothing was done, as the mirror is halted.
  pub record LeavesHalted : Type 0 where
    pub halted : p.1.array.halted ≡ true
    pub mirror : q.1 ≡ p.1
    pub still : StillWaits p.0 q.0

  -- What waited was written, and no more.
  pub record WritesNoMore : Type 0 where
    pub waited : WritesWaiting p.0 p.1 q.1
    pub none : q.0.run.items ≡ []

  -- ---- reads
  -- What waited was written, and then the sectors were read.
  pub record ReadsBehind (sector : ℕ) (bytes : List ℕ) : Type 0 where
    pub mid : MirrorView
    pub waited : WritesWaiting p.0 p.1 mid
    pub none : q.0.run.items ≡ []
    pub given : GivesSectors mid q.1 sector bytes

  pub record LacksSectors (sector sectors : ℕ) : Type 0 where
    pub mid : MirrorView
    pub waited : WritesWaiting p.0 p.1 mid
    pub none : q.0.run.items ≡ []
    pub refused : FailsToGive mid q.1 sector sectors

  abbrev pub FailsToRead : ℕ → ℕ → Type 0
  FailsToRead sector sectors = FailsWaiting ⊎ LacksSectors sector sectors

  abbrev pub WhyUnread : ℕ → ℕ → StoreFault → Type 0
  WhyUnread sector sectors why =
      FailsWaitingFor why ⊎ ((h : LacksSectors sector sectors) × (why ≡ unread_fault h.refused.fault))

  -- ---- writes
  -- The bytes lie behind what waits, and wait with it.
  pub record JoinsWaiting (sector : ℕ) (bytes : List ℕ) : Type 0 where
    pub running : p.1.array.halted ≡ false
    pub mirror : q.1 ≡ p.1
    pub behind : sector_bytes * sector ≡ sector_bytes * p.0.start + length p.0.run.items
    pub joined : HasJoined bytes p.0 q.0

  -- What waited was written, and the bytes wait.
  pub record WaitsAnew (sector : ℕ) (bytes : List ℕ) : Type 0 where
    pub running : p.1.array.halted ≡ false
    pub waited : WritesWaiting p.0 p.1 q.1
    pub start : q.0.start ≡ sector
    pub run : q.0.run.items ≡ bytes

  -- What waited was written, and then the bytes were.
  pub record WritesThrough (sector : ℕ) (bytes : List ℕ) : Type 0 where
    pub running : p.1.array.halted ≡ false
    pub mid : MirrorView
    pub waited : WritesWaiting p.0 p.1 mid
    pub none : q.0.run.items ≡ []
    pub written : WritesSectors mid q.1 sector bytes

  -- A write that has to stand before its answer does not wait.
  abbrev pub TakesWrite : ℕ → List ℕ → Bool → Type 0
  TakesWrite sector bytes true = WritesThrough sector bytes
  TakesWrite sector bytes false =
      JoinsWaiting sector bytes ⊎ WaitsAnew sector bytes ⊎ WritesThrough sector bytes

  pub record FailsBehind (sector : ℕ) (bytes : List ℕ) : Type 0 where
    pub mid : MirrorView
    pub waited : WritesWaiting p.0 p.1 mid
    pub none : q.0.run.items ≡ []
    pub refused : FailsToWrite mid q.1 sector bytes

  -- The mirror is halted, or there is no memory for what is to wait, or a write was refused.
  abbrev pub FailsToTake : ℕ → List ℕ → Type 0
  FailsToTake sector bytes = LeavesAll ⊎ FailsWaiting ⊎ WritesNoMore ⊎ FailsBehind sector bytes

  -- The mirror runs, but there is no memory for what is to wait.
  pub record LacksMemory (why : StoreFault) : Type 0 where
    pub running : p.1.array.halted ≡ false
    pub left : LeavesAll ⊎ WritesNoMore
    pub is : why ≡ NoMemory

  abbrev pub WhyUntaken : ℕ → List ℕ → StoreFault → Type 0
  WhyUntaken sector bytes why =
      (LeavesHalted × (why ≡ Halted)) ⊎ LacksMemory why ⊎ FailsWaitingFor why
      ⊎ ((h : FailsBehind sector bytes) × (why ≡ unwritten_fault h.refused.fault))

  -- ---- flushes
  -- What waited was written, and all stands. The marks of it are cleared, or kept for another flush.
  pub record FlushesAll : Type 0 where
    pub running : p.1.array.halted ≡ false
    pub mid : MirrorView
    pub waited : WritesWaiting p.0 p.1 mid
    pub none : q.0.run.items ≡ []
    pub marks : (q.1 ≡ mid) ⊎ ClearsMarks mid q.1

  -- What waited was written, and all stands, as by a flush, but the marks of it are not kept.
  pub record RestsAll : Type 0 where
    pub mid : MirrorView
    pub waited : WritesWaiting p.0 p.1 mid
    pub none : q.0.run.items ≡ []
    pub marks : ClearsMarks mid q.1

  pub record HaltsAtMarks : Type 0 where
    pub mid : MirrorView
    pub waited : WritesWaiting p.0 p.1 mid
    pub none : q.0.run.items ≡ []
    pub refused : FailsToClear mid q.1

  abbrev pub FailsToFlush : Type 0
  FailsToFlush = LeavesHalted ⊎ FailsWaiting ⊎ HaltsAtMarks

  abbrev pub WhyUnflushed : StoreFault → Type 0
  WhyUnflushed why = (LeavesHalted × (why ≡ Halted)) ⊎ FailsWaitingFor why ⊎ (HaltsAtMarks × (why ≡ Halted))

-- ---- the array as a store
abbrev pub writer_store : Stores ArrayWriter MirrorView
writer_store = record {
  is_sound = λ p. IsConsistent p.1 × WaitsWithin p.0;
  sectors = λ p. p.0.sectors;
  reads = λ p q sector bytes. ReadsBehind p q sector bytes;
  unread = λ p q sector sectors. FailsToRead p q sector sectors;
  why_unread = λ p q sector sectors why. WhyUnread p q sector sectors why;
  writes = λ p q sector bytes through. TakesWrite p q sector bytes through;
  unwritten = λ p q sector bytes. FailsToTake p q sector bytes;
  why_unwritten = λ p q sector bytes why. WhyUntaken p q sector bytes why;
  flushes = λ p q. FlushesAll p q;
  unflushed = λ p q. FailsToFlush p q;
  why_unflushed = λ p q why. WhyUnflushed p q why;
  rests = λ p q. RestsAll p q;
}
