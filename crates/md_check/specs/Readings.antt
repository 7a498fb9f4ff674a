-- What a worker reads of its reader's member.
use Rattle.std.specs.Prelude.{◌≡◌, ℕ, ◌+◌, ◌*◌, ◌/◌, ◌<◌, ◌≤◌, true, is_some, List, length, slice_index_or, Some, None}
use Rattle.md_device.specs.Device.{held}
use Rattle.md_device.specs.declared.device.Device.{Ghosts}
use Rattle.md_device.specs.declared.fault_list.Fault.{Fault}
use Rattle.md_device.specs.Failing.{SomeNewFault}
use Rattle.md_bitmap.specs.declared.chunks.Chunks.{Chunks}
use Rattle.md_bitmap.specs.Chunks.{InChunk}
use Rattle.md_badblocks.specs.declared.run.Run.{Run}
use Rattle.md_badblocks.specs.Runs.{IsBad}
use Rattle.md_collect.specs.Reading.{CountsFailure, IsReadOfChunk}
use Rattle.md_check.specs.declared.reader.Reader.{Reader}
use Rattle.md_check.specs.declared.lent.Missed.{Missed}
use Rattle.md_check.specs.Readers.{HasNotFailed, HaveNotFailed, OnlyReaderRead, shown_of}

-- In each of n sectors of the array from this one on that is not listed, the bytes are those of a member whose data start at this
-- sector of its device.
abbrev pub HasUnlisted : List ℕ → ℕ → List Run → ℕ → ℕ → List ℕ → Type 0
HasUnlisted content offset listed sector n bytes = (i : ℕ) → i < n → (IsBad listed (sector + i) → ⊥) → held bytes i 512 ≡ held content (offset + (sector + i)) 512

-- the chunk has one of n sectors from this one on that is not listed
pub record IsToRead (chunks : Chunks) (listed : List Run) (from n c : ℕ) : Type 0 where
  pub sector : ℕ
  pub not_before : from ≤ sector
  pub before : sector < from + n
  pub inside : InChunk chunks.sectors chunks.size c sector
  pub unlisted : IsBad listed sector → ⊥

-- a read of nothing but bytes of the chunk, on a member whose data start at this sector, and of no sector that it lists
pub record IsReadUnlisted (offset : ℕ) (chunks : Chunks) (IsListed : ℕ → Type 0) (chunk : ℕ) (f : Fault) : Type 0 where
  pub of_chunk : IsReadOfChunk offset chunks chunk f
  pub unlisted : (s : ℕ) → f.sector ≤ offset + s → 512 * (offset + s) < 512 * f.sector + f.size → IsListed s → ⊥

module _ {D : Type 0} (g : Ghosts D) where
  -- such a read failed in between
  abbrev pub FailsUnlisted : D → D → ℕ → Chunks → (ℕ → Type 0) → ℕ → Type 0
  FailsUnlisted old new offset chunks IsListed chunk = SomeNewFault (g.faults old) (g.faults new) (IsReadUnlisted offset chunks IsListed chunk)

  -- the member is read, and could not be in a chunk that has one of these n sectors, which it does not list: a read of nothing but
  -- bytes of that chunk, and of no listed sector, failed
  pub record MissesChunk (chunks : Chunks) (from n : ℕ) (old new : Reader D) (c : ℕ) : Type 0 where
    pub reads : is_some old.role ≡ true
    pub read : IsToRead chunks old.listed from n c
    pub fails : CountsFailure g old.device new.device
    pub there : FailsUnlisted old.device new.device old.offset chunks (IsBad old.listed) c

  -- a reader before and after it was read into its buffer: this many sectors from this one on
  pub record HasReadSectors (chunks : Chunks) (from sectors : ℕ) (old new : Reader D) : Type 0 where
    pub read : OnlyReaderRead g old new
    pub long : length new.bytes.items ≡ length old.bytes.items
    pub alike_kept : new.alike ≡ old.alike
    pub gave : new.missed ≡ None → is_some old.role ≡ true → g.honest old.device ≡ true
        → HasUnlisted (g.content old.device) old.offset old.listed from sectors new.bytes.items
    pub missed : (c : ℕ) → new.missed ≡ Some c → MissesChunk chunks from sectors old new c
    pub unfailing : new.missed ≡ None → HasNotFailed g old new

  -- a reader before and after a turn, in which the window of so many sectors from this one on was read of it, and n sectors were to be read:
  -- `lead` was read of the first member
  pub record HasTurned (chunks : Chunks) (from sectors n : ℕ) (lead : List ℕ) (old new : Reader D) : Type 0 where
    pub read : OnlyReaderRead g old new
    pub long : length new.bytes.items ≡ length old.bytes.items
    pub gave : new.missed ≡ None → is_some old.role ≡ true → g.honest old.device ≡ true
        → HasUnlisted (g.content old.device) old.offset old.listed from sectors (shown_of lead new)
    pub size : 512 * sectors ≤ length (shown_of lead new)
    pub missed : (c : ℕ) → new.missed ≡ Some c → MissesChunk chunks from n old new c
    pub unfailing : new.missed ≡ None → HasNotFailed g old new

  -- these bytes are what the member has in the window from this sector on
  abbrev pub IsLead : ℕ → List ℕ → Reader D → Type 0
  IsLead from lead reader = is_some reader.role ≡ true → g.honest reader.device ≡ true → HasUnlisted (g.content reader.device) reader.offset reader.listed from (length lead / 512) lead

  -- the next window, too, was read of the reader's member
  abbrev pub HasLed : ℕ → ℕ → Reader D → Reader D → Type 0
  HasLed next ahead old new = new.missed ≡ None → is_some old.role ≡ true → g.honest old.device ≡ true
      → HasUnlisted (g.content old.device) old.offset old.listed next ahead new.bytes.items

  -- this is so of the reader that is named, and of none before it
  pub record MissesIn (chunks : Chunks) (olds news : List (Reader D)) (missed : Missed) : Type 0 where
    pub within : missed.member < length olds
    pub misses : (d : Reader D) → MissesChunk chunks 0 chunks.size (slice_index_or olds missed.member d) (slice_index_or news missed.member d) missed.chunk
    pub earlier : HaveNotFailed g missed.member olds news
