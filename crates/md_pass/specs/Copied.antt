-- What a pass has done by the time that it answers. Which slots failed is told by the marks of the chunks that were copied.
use Rattle.std.specs.Prelude.{◌≡◌, ℕ, ◌+◌, ◌≤◌, Bool, true, false, not, List, length, filter, count_by, slice_index_or, All}
use Rattle.md_cert.specs.declared.slots.Slot.{Slot}
use Rattle.md_device.specs.declared.device.Device.{Ghosts}
use Rattle.md_device.specs.declared.fault_list.Fault.{Fault}
use Rattle.md_device.specs.Failing.{EachNewFault}
use Rattle.md_bitmap.specs.Marks.{Bitmap, is_set}
use Rattle.md_collect.specs.Places.{chunk_on}
use Rattle.md_collect.specs.Reading.{CountsFailure, FailsInChunk, IsReadOfChunk}
use Rattle.md_collect.specs.Reports.{Copying, is_planned}
use Rattle.md_pass.specs.declared.fault.PassFault.{PassFault}
use Rattle.md_pass.specs.declared.fault.PassFault.TheVariants.{NoMemory, TargetFault}
use Rattle.md_pass.specs.declared.pass.BoardCounts.{BoardCounts}
use Rattle.md_pass.specs.declared.source.Source.{Source}
use Rattle.md_pass.specs.Beside.{KeepsBeside, SameBesideCopied, has_chunk}
use Rattle.md_collect.specs.Workers.Queues.{AreOnlyRead}
use Rattle.md_pass.specs.Readings.{has_slot, is_of}

-- no chunk of the plan was copied
abbrev pub AreUncopied : List Slot → Bitmap → Type 0
AreUncopied slots copied = All (λ slot. is_set copied.bytes slot.chunk ≡ false) slots

-- The slot's chunk was not copied. Once the pass is done, its source failed to give it.
abbrev pub is_failed_slot : Bitmap → Slot → Bool
is_failed_slot copied slot = not (is_set copied.bytes slot.chunk)

-- the slots that failed, in the order of their chunks
abbrev pub failed_slots : List Slot → Bitmap → List Slot
failed_slots slots copied = filter (is_failed_slot copied) slots

-- planned chunks, and no others, join those that were copied
pub record AreJoined (slots : List Slot) (old new : Bitmap) : Type 0 where
  pub chunks : new.chunks ≡ old.chunks
  pub kept : (c : ℕ) → is_set old.bytes c ≡ true → is_set new.bytes c ≡ true
  pub planned : (c : ℕ) → has_chunk slots c ≡ false → is_set new.bytes c ≡ is_set old.bytes c

-- what holds where memory was refused, and what where the target could not be written
abbrev pub OnFault : Type 0 → Type 0 → PassFault → Type 0
OnFault refused unwritten NoMemory = refused
OnFault refused unwritten TargetFault = unwritten

-- a read of nothing but bytes of the chunk of a slot of the source, which failed
pub record IsOfFailedSlot (copy : Copying) (copied : Bitmap) (s : Source) (f : Fault) : Type 0 where
  pub chunk : ℕ
  pub planned : is_planned copy.slots chunk s.role ≡ true
  pub uncopied : is_set copied.bytes chunk ≡ false
  pub there : IsReadOfChunk s.offset copy.chunks chunk f

-- what a pass works on: the devices that it reads, the one that it fills, and the set of the chunks that were copied
pub record PassState (D : Type 0) : Type 0 where
  pub devices : List D
  pub target : D
  pub copied : Bitmap

abbrev pub pass_state : {D : Type 0} → List D → D → Bitmap → PassState D
pass_state devices target copied = record { devices = devices; target = target; copied = copied }

module _ {D : Type 0} (g : Ghosts D) where
  -- the target has in a chunk what the source had
  abbrev pub HoldsChunkOf : Copying → List D → D → D → ℕ → Source → Type 0
  HoldsChunkOf copy devices old new chunk s =
      (d : D) → g.honest old ≡ true → g.honest (slice_index_or devices s.place d) ≡ true
      → chunk_on (g.content new) copy.offset copy.chunks chunk ≡ chunk_on (g.content (slice_index_or devices s.place d)) s.offset copy.chunks chunk

  -- each planned chunk that was copied is its source's
  abbrev pub AreCopied : Copying → Bitmap → List Source → List D → D → D → Type 0
  AreCopied copy copied sources devices old new =
      All (λ slot. is_set copied.bytes slot.chunk ≡ true → All (λ s. s.role ≡ slot.source → HoldsChunkOf copy devices old new slot.chunk s) sources) copy.slots

  -- each source's device has counted a failure for each of its slots that failed, or more
  abbrev pub CountFailed : List Slot → Bitmap → List Source → List D → List D → Type 0
  CountFailed slots copied sources olds news =
      All (λ s. (d : D) → g.honest (slice_index_or olds s.place d) ≡ true
      → g.failures (slice_index_or olds s.place d) + count_by (is_of s.role) (failed_slots slots copied) ≤ g.failures (slice_index_or news s.place d)) sources

  -- a source's device failed a read of the chunk of each of its slots that failed
  abbrev pub FailThere : Copying → Bitmap → List Source → List D → List D → Type 0
  FailThere copy copied sources olds news =
      All (λ slot. is_set copied.bytes slot.chunk ≡ false
      → All (λ s. s.role ≡ slot.source → (d : D) → FailsInChunk g (slice_index_or olds s.place d) (slice_index_or news s.place d) s.offset copy.chunks slot.chunk) sources) copy.slots

  -- of a source that has slots no other call failed
  abbrev pub FailOnlyThere : Copying → Bitmap → List Source → List D → List D → Type 0
  FailOnlyThere copy copied sources olds news =
      All (λ s. has_slot copy.slots s.role ≡ true → (d : D) → EachNewFault (g.faults (slice_index_or olds s.place d)) (g.faults (slice_index_or news s.place d)) (IsOfFailedSlot copy copied s)) sources

  -- Chunks of the plan were copied, as many as it came to: the marks tell which. Beside them the target is as it was.
  pub record HasCopied (copy : Copying) (sources : List Source) (old new : PassState D) : Type 0 where
    pub joined : AreJoined copy.slots old.copied new.copied
    pub holds : AreCopied copy new.copied sources old.devices old.target new.target
    pub beside : SameBesideCopied copy.chunks copy.offset old.copied new.copied (g.content old.target) (g.content new.target)

  -- All slots were read and noted: those as failed whose chunk was not copied, and no more of a source than its device counted.
  -- Its device failed a read of nothing but bytes of that chunk, and no other call of it failed.
  pub record EndsPass (copy : Copying) (sources : List Source) (old new : PassState D) (counts : BoardCounts) : Type 0 where
    pub copied : HasCopied copy sources old new
    pub none_left : counts.left ≡ 0
    pub failed : counts.failed ≡ length (failed_slots copy.slots new.copied)
    pub counted : CountFailed copy.slots new.copied sources old.devices new.devices
    pub there : FailThere copy new.copied sources old.devices new.devices
    pub only_there : FailOnlyThere copy new.copied sources old.devices new.devices

  -- Memory was refused before anything was done. Or the pass was broken off, since the target could not be written; then nothing is said of what
  -- was copied.
  abbrev pub BreaksOff : PassState D → PassState D → PassFault → Type 0
  BreaksOff old new = OnFault (new ≡ old) (CountsFailure g old.target new.target)

  -- whatever the answer is: the devices were only read, and of the target no more than chunks of the plan was written
  pub record WritesPlanned (copy : Copying) (old new : PassState D) : Type 0 where
    pub sources : AreOnlyRead g old.devices new.devices
    pub target : KeepsBeside g copy old.target new.target
