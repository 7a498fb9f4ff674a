-- The command that reads an array.
use Rattle.std.specs.Prelude.{◌≡◌, ℕ, Bool, true, false}
use Rattle.md_streams.specs.declared.sink.Sink.{Ghosts}
use Rattle.md_resync.specs.declared.fault.ResyncFault.TheVariants.{ReadFault}
use Rattle.md_read.specs.declared.fault.UnreadFault.{UnreadFault}
use Rattle.md_read.specs.declared.fault.UnreadFault.TheVariants.{Halted, NotResynced, OutOfRange, Unreadable}
use Rattle.md_state.specs.Steps.Begin.{IsInRange, IsOutOfRange}
use Rattle.md_state.specs.Members.{is_degraded}
use Rattle.md_state.specs.Trying.{Refuses, RefusesHalted}
use Rattle.md_state.specs.View.{ArrayView, MirrorView}
use Rattle.md_refusals.specs.declared.fault.CommandFault.{CommandFault}
use Rattle.md_refusals.specs.declared.fault.CommandFault.TheVariants.{NoPieceMemory, OutputFault, Read, Resync}
use Rattle.md_read_commands.specs.Pieces.{PutsSectors, RefusesSectors}
use Rattle.md_commands.specs.Resyncing.{RefusesNeededResync, ResyncsIfNeeded, needs_resync}
use Rattle.md_read_commands.specs.declared.way.Way.{Way}
use Rattle.md_read_commands.specs.declared.way.Way.TheVariants.{Resynced, Unresynced}

-- the mirror runs, and the array has these sectors
pub record MayReadArray (a : ArrayView) (sector count : ℕ) : Type 0 where
  pub running : a.halted ≡ false
  pub range : IsInRange a sector count

abbrev pub RefusesRange : ℕ → ℕ → MirrorView → MirrorView → UnreadFault → Type 0
RefusesRange sector count old new Halted = RefusesHalted old new
RefusesRange sector count old new OutOfRange = Refuses old new (IsOutOfRange old.array sector count)
RefusesRange sector count old new fault = ⊥

-- the range is right, and the array is resynced where it has to be
pub record IsReadied (sector count : ℕ) (old ready : MirrorView) : Type 0 where
  pub may : MayReadArray old.array sector count
  pub readied : ResyncsIfNeeded old ready
  pub resynced : ready.array.resynced ≡ true

-- members in sync may differ, and the array is not degraded: it is not resynced before it is read
pub record MustBeResynced (a : ArrayView) (sector count : ℕ) : Type 0 where
  pub may : MayReadArray a sector count
  pub not_yet : a.resynced ≡ false
  pub complete : is_degraded a ≡ false

-- A resynced array is read as it is. A degraded one that is not is read as it would be after a resync; another one is not read.
abbrev pub IsWayFor : ArrayView → Way → Type 0
IsWayFor a Resynced = a.resynced ≡ true
IsWayFor a Unresynced = needs_resync a ≡ true

-- The array is made ready to be read in this way. Where no image may be changed it stays as it is; else it is resynced first, if it needs
-- that.
abbrev pub IsReadyTo : Bool → ℕ → ℕ → MirrorView → Way → MirrorView → Type 0
IsReadyTo false sector count old way ready = IsReadied sector count old ready × (way ≡ Resynced)
IsReadyTo true sector count old way ready =
    MayReadArray old.array sector count × IsWayFor old.array way × (ready ≡ old)

-- The array is not ready to be read, or the sectors are not read.
abbrev pub RefusesReady : Bool → ℕ → ℕ → MirrorView → MirrorView → CommandFault → Type 0
RefusesReady readonly sector count old new (Read Halted) = RefusesRange sector count old new Halted
RefusesReady readonly sector count old new (Read OutOfRange) = RefusesRange sector count old new OutOfRange
RefusesReady readonly sector count old new (Read NotResynced) =
    Refuses old new (MustBeResynced old.array sector count)
RefusesReady false sector count old new (Resync fault) =
    MayReadArray old.array sector count × RefusesNeededResync old new fault
RefusesReady readonly sector count old new fault = ⊥

module _ {S : Type 0} (o : Ghosts S) (sector count : ℕ) (old new : MirrorView) (before after : S) where
  pub record ReadsArray : Type 0 where
    pub ready : MirrorView
    pub readied : IsReadied sector count old ready
    pub puts : PutsSectors o Resynced sector count ready new before after

  -- it is ready, and not all sectors are read or put out
  pub record FailsReadyRead (fault : CommandFault) : Type 0 where
    pub ready : MirrorView
    pub readied : IsReadied sector count old ready
    pub refused : RefusesSectors o Resynced sector count ready new before after fault

  abbrev pub RefusesToRead : CommandFault → Type 0
  RefusesToRead (Read Halted) = RefusesRange sector count old new Halted × (after ≡ before)
  RefusesToRead (Read OutOfRange) = RefusesRange sector count old new OutOfRange × (after ≡ before)
  RefusesToRead (Resync fault) =
      MayReadArray old.array sector count × RefusesNeededResync old new fault × (after ≡ before)
  RefusesToRead (Read NotResynced) =
      Refuses old new (MustBeResynced old.array sector count) × (after ≡ before)
  RefusesToRead NoPieceMemory = FailsReadyRead NoPieceMemory
  RefusesToRead (Read (Unreadable s)) = FailsReadyRead (Read (Unreadable s))
  RefusesToRead OutputFault = FailsReadyRead OutputFault
  RefusesToRead fault = ⊥

  -- ---- nothing is written
  pub record ReadsReadonly : Type 0 where
    pub may : MayReadArray old.array sector count
    pub way : Way
    pub chosen : IsWayFor old.array way
    pub puts : PutsSectors o way sector count old new before after

  -- not all sectors are read or put out
  pub record FailsReadonly (fault : CommandFault) : Type 0 where
    pub may : MayReadArray old.array sector count
    pub way : Way
    pub chosen : IsWayFor old.array way
    pub refused : RefusesSectors o way sector count old new before after fault

  abbrev pub RefusesReadonly : CommandFault → Type 0
  RefusesReadonly (Read Halted) = RefusesRange sector count old new Halted × (after ≡ before)
  RefusesReadonly (Read OutOfRange) = RefusesRange sector count old new OutOfRange × (after ≡ before)
  RefusesReadonly (Read NotResynced) =
      Refuses old new (MustBeResynced old.array sector count) × (after ≡ before)
  RefusesReadonly NoPieceMemory = FailsReadonly NoPieceMemory
  RefusesReadonly (Read (Unreadable s)) = FailsReadonly (Read (Unreadable s))
  RefusesReadonly (Resync (ReadFault k chunk)) = FailsReadonly (Resync (ReadFault k chunk))
  RefusesReadonly OutputFault = FailsReadonly OutputFault
  RefusesReadonly fault = ⊥
