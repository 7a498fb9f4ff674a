-- How sectors of an array are read: of one that is resynced by `read`, and of one that is not as a resync would leave them, by
-- `read_unresynced`.
use Rattle.std.specs.Prelude.{◌≡◌, ℕ, ◌/◌, true, List}
use Rattle.md_read.specs.declared.fault.UnreadFault.TheVariants.{Unreadable}
use Rattle.md_read.specs.declared.unresynced_fault.UnresyncedFault.TheVariants as unresynced
use Rattle.md_read.specs.Reading.{Reads, RefusesRead}
use Rattle.md_read.specs.Unresynced.{MayReadSectors, ReadsUnresynced, RefusesUnresynced}
use Rattle.md_resync.specs.declared.fault.ResyncFault.TheVariants.{ReadFault}
use Rattle.md_state.specs.View.{ArrayView, MirrorView}
use Rattle.md_refusals.specs.declared.fault.CommandFault.{CommandFault}
use Rattle.md_refusals.specs.declared.fault.CommandFault.TheVariants.{Read, Resync}
use Rattle.md_read_commands.specs.declared.way.Way.{Way}
use Rattle.md_read_commands.specs.declared.way.Way.TheVariants.{Resynced, Unresynced}

-- what the way asks of the array, beside the range
abbrev pub IsFor : Way → ArrayView → Type 0
IsFor Resynced a = a.resynced ≡ true
IsFor Unresynced a = Unit {0}

pub record MayReadBy (way : Way) (a : ArrayView) (sector sectors : ℕ) : Type 0 where
  pub may : MayReadSectors a sector sectors
  pub is_for : IsFor way a

-- these bytes are read so
abbrev pub ReadsBy : Way → ℕ → List ℕ → MirrorView → MirrorView → Type 0
ReadsBy Resynced = Reads
ReadsBy Unresynced = ReadsUnresynced

-- The read ended at sector s, for this reason. Where the member that a resync copies the sector from can't be read, it is the fault of a
-- resync, with the sector's chunk.
abbrev pub EndsReading : Way → ℕ → ℕ → List ℕ → MirrorView → MirrorView → CommandFault → Type 0
EndsReading Resynced sector s bytes old new (Read (Unreadable t)) =
    (t ≡ s) × RefusesRead sector bytes old new (Unreadable s)
EndsReading Unresynced sector s bytes old new (Read (Unreadable t)) =
    (t ≡ s) × RefusesUnresynced sector bytes old new (unresynced.Unreadable s)
EndsReading Unresynced sector s bytes old new (Resync (ReadFault k c)) =
    (c ≡ s / old.array.chunks.sectors) × RefusesUnresynced sector bytes old new (unresynced.ReadFault k s)
EndsReading way sector s bytes old new fault = ⊥
