-- Readers: a member's device each, with what is read of it in a window.
use Rattle.std.specs.Prelude.{◌≡◌, ℕ, ◌+◌, ◌-◌, ◌<◌, true, false, is_some, List, length, slice_get, slice_index_or, Some, if◌then◌else◌}
use Rattle.md_device.specs.Device.{held}
use Rattle.md_device.specs.declared.device.Device.{Ghosts}
use Rattle.md_bitmap.specs.declared.chunks.Chunks.{Chunks}
use Rattle.md_badblocks.specs.Runs.{IsBad}
use Rattle.md_collect.specs.Places.{HasRoom}
use Rattle.md_collect.specs.Workers.Queues.{OnlyRead}
use Rattle.md_check.specs.declared.reader.Reader.{Reader}

module _ {D : Type 0} where
  -- the member in this reader is in sync and does not list the sector, and these are the bytes that `at` gives there
  pub record ReaderShows (at : Reader D → ℕ → List ℕ) (readers : List (Reader D)) (k s : ℕ) (bytes : List ℕ) : Type 0 where
    pub reader : Reader D
    pub there : slice_get readers k ≡ Some reader
    pub reads : is_some reader.role ≡ true
    pub unlisted : IsBad reader.listed s → ⊥
    pub is : at reader s ≡ bytes

  -- what was read of a member in a window, of which `lead` was read of the first one
  abbrev pub shown_of : List ℕ → Reader D → List ℕ
  shown_of lead reader = if reader.alike then lead else reader.bytes.items

  -- what was read of a sector, in a window from this one on
  abbrev pub in_window : List ℕ → ℕ → Reader D → ℕ → List ℕ
  in_window lead from reader s = held (shown_of lead reader) (s - from) 512

module _ {D : Type 0} (g : Ghosts D) where
  -- what stands on the device
  abbrev pub on_device : Reader D → ℕ → List ℕ
  on_device reader s = held (g.content reader.device) (reader.offset + s) 512

  -- the member's data lie on the device, if it is to be read
  abbrev pub HasDataOnDevice : Chunks → Reader D → Type 0
  HasDataOnDevice chunks reader = is_some reader.role ≡ true → HasRoom (g.content reader.device) reader.offset chunks

  -- each device that is read does what it answers
  abbrev pub AreReadersHonest : List (Reader D) → Type 0
  AreReadersHonest readers = (k : ℕ) (d : Reader D) → k < length readers → g.honest (slice_index_or readers k d).device ≡ true

  -- a reader before and after its device was read; that of a member that is not in sync was not used
  pub record OnlyReaderRead (old new : Reader D) : Type 0 where
    pub kept : new ≡ record old { device = new.device; bytes = new.bytes; alike = new.alike; missed = new.missed }
    pub only_read : OnlyRead g old.device new.device
    pub unused : is_some old.role ≡ false → new.device ≡ old.device

  -- a reader whose device was read, into its buffer
  pub record IsUsed (old new : Reader D) : Type 0 where
    pub kept : new ≡ record old { device = new.device; bytes = new.bytes }
    pub long : length new.bytes.items ≡ length old.bytes.items
    pub only_read : OnlyRead g old.device new.device

  -- no call on a device has failed
  abbrev pub HasNotFailed : Reader D → Reader D → Type 0
  HasNotFailed old new = g.failures new.device ≡ g.failures old.device

  -- nor on any of the first n
  abbrev pub HaveNotFailed : ℕ → List (Reader D) → List (Reader D) → Type 0
  HaveNotFailed n olds news = (k : ℕ) (d : Reader D) → k < n → HasNotFailed (slice_index_or olds k d) (slice_index_or news k d)

  pub record AreReadersRead (olds news : List (Reader D)) : Type 0 where
    pub as_many : length news ≡ length olds
    pub each : (k : ℕ) (d : Reader D) → k < length olds → OnlyReaderRead (slice_index_or olds k d) (slice_index_or news k d)
