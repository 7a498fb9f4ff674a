-- What a gate is told of the members that are read.
use Rattle.std.specs.Prelude.{◌≡◌, ℕ, List, Some}
use Rattle.md_badblocks.specs.declared.run.Run.{Run}
use Rattle.md_bitmap.specs.declared.chunks.Chunks.{Chunks}
use Rattle.md_streams.specs.declared.gate.Gate.{Ghosts}
use Rattle.md_collect.specs.Workers.Gates.{IsTold}
use Rattle.md_check.specs.declared.reader.Reader.{Reader}
use Rattle.md_check.specs.Readings.{IsToRead}

module _ {G : Type 0} (t : Ghosts G) (gate : G) where
  -- of the read of each chunk that has one of n sectors from this one on that the member in this role does not list
  abbrev pub IsToldOfSectors : ℕ → Chunks → List Run → ℕ → ℕ → Type 0
  IsToldOfSectors role chunks listed from n = (c : ℕ) → IsToRead chunks listed from n c → IsTold t gate role c

  -- of these reads of a reader's member, if it is in sync
  abbrev pub IsToldOfReader : {D : Type 0} → Chunks → ℕ → ℕ → Reader D → Type 0
  IsToldOfReader chunks from n reader =
      (role : ℕ) → reader.role ≡ Some role → IsToldOfSectors role chunks reader.listed from n
