-- A chunk is read from a source.
use Rattle.std.specs.Prelude.{◌≡◌, ◌+◌, ◌<◌, ◌≤◌, ℕ, List, length, true, None, IfOk, IfSome, IsSome, Ok, OnErr, Result}
use Rattle.md_device.specs.declared.device.Device.{Ghosts}
use Rattle.md_device.specs.declared.fault_list.Fault.{Fault}
use Rattle.md_device.specs.Crashes.{LeavesMore}
use Rattle.md_device.specs.Failing.{EachNewFault, SomeNewFault, IsReadWithin}
use Rattle.md_bitmap.specs.declared.chunks.Chunks.{Chunks}
use Rattle.md_collect.specs.Places.{bytes_of_chunk, chunk_on, start_of}
use Rattle.md_collect.specs.Reports.{ReportView}

-- a read of nothing but bytes of the chunk, on a member whose data start at this sector
abbrev pub IsReadOfChunk : ℕ → Chunks → ℕ → Fault → Type 0
IsReadOfChunk offset chunks chunk = IsReadWithin (offset + start_of chunks chunk) (bytes_of_chunk chunks chunk)

module _ {D : Type 0} (g : Ghosts D) where
  -- these bytes are the source's own
  abbrev pub IsChunkOf : D → ℕ → Chunks → ℕ → List ℕ → Type 0
  IsChunkOf device offset chunks chunk bytes = g.honest device ≡ true → bytes ≡ chunk_on (g.content device) offset chunks chunk

  -- the device has counted a failure
  abbrev pub CountsFailure : D → D → Type 0
  CountsFailure old new = g.honest old ≡ true → g.failures old < g.failures new

  -- a read of the chunk failed in between
  abbrev pub FailsInChunk : D → D → ℕ → Chunks → ℕ → Type 0
  FailsInChunk old new offset chunks chunk = SomeNewFault (g.faults old) (g.faults new) (IsReadOfChunk offset chunks chunk)

  -- a crash leaves what the device held before
  abbrev pub LeavesContent : D → D → Type 0
  LeavesContent old new = g.honest old ≡ true → LeavesMore (g.crashes old) (g.crashes new) (λ left. left ≡ g.content old)

  -- a chunk of a source was read, whose data starts at this sector: what is reported of it, and how the device is afterwards
  pub record ReadsChunk {E : Type 0} (old new : D) (source offset : ℕ) (chunks : Chunks) (chunk : ℕ) (result : Result ReportView E) : Type 0 where
    pub named : IfOk result (λ r. (r.chunk ≡ chunk) × (r.source ≡ source))
    pub whole : IfOk result (λ r. IfSome r.bytes (λ bytes. length bytes ≡ bytes_of_chunk chunks chunk))
    pub delivered : IfOk result (λ r. IfSome r.bytes (IsChunkOf old offset chunks chunk))
    pub unfailing : IfOk result (λ r. IsSome r.bytes → g.failures new ≡ g.failures old)
    pub failed : IfOk result (λ r. r.bytes ≡ None → CountsFailure old new)
    pub failed_there : IfOk result (λ r. r.bytes ≡ None → FailsInChunk old new offset chunks chunk)
    pub no_other_failed : EachNewFault (g.faults old) (g.faults new) (IsReadOfChunk offset chunks chunk)
    pub none_failed : IfOk result (λ r. IsSome r.bytes → g.faults new ≡ g.faults old)
    pub err : OnErr result (new ≡ old)
    pub kept : g.content new ≡ g.content old
    pub honest : g.honest new ≡ g.honest old
    pub counted : g.failures old ≤ g.failures new
    pub within : LeavesContent old new

  -- it was read, and this is what is reported of it
  abbrev pub ReportsChunk : D → D → ℕ → ℕ → Chunks → ℕ → ReportView → Type 0
  ReportsChunk old new source offset chunks chunk r = ReadsChunk {E = Unit {0}} old new source offset chunks chunk (Ok r)
