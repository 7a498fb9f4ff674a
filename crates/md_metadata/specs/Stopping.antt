-- A whole stop.
use Rattle.std.specs.Prelude.{◌≡◌, ◌⊎◌, ℕ, ◌<◌, Bool, true, false, cond, not, ◌&&◌, ◌==◌}
use Rattle.md_model.specs.Events.{Event, MemberPart}
use Rattle.md_bitmap.specs.Marks.{Bitmap, is_set}
use Rattle.md_kept_members.specs.View.{MemberView}
use Rattle.md_state.specs.View.{ArrayView, MirrorView}
use Rattle.md_state.specs.Steps.MakeClean.{CannotRise, HasInFlight, IsIdle, made_clean}
use Rattle.md_state.specs.Members.{AllInSync, clean_offset, is_degraded}
use Rattle.md_state.specs.Steps.Rise.{HasSpentEvents}
use Rattle.md_state.specs.Trying.{Refuses, RefusesHalted}
use Rattle.md_metadata.specs.declared.stop_fault.StopFault.{StopFault}
use Rattle.md_metadata.specs.declared.stop_fault.StopFault.TheVariants.{Halted, InFlight, EventsFull, MemberFailed}
use Rattle.md_metadata.specs.Going.{HaltsAfter, IsFaulty, LeadsBy, only_others, recorded_count}
use Rattle.md_metadata.specs.Storing.{AllRecorded, HasAllMarks, IsRecording, IsStoring, LosesStoring, Stores}

-- an event of a stop: marks and the clean state in memory, then what is stored
abbrev pub IsStopping : Event → Type 0
IsStopping (Event.ClearIdle c) = Unit {0}
IsStopping Event.MakeClean = Unit {0}
IsStopping (Event.Record k) = Unit {0}
IsStopping (Event.StoreMarks k b) = Unit {0}
IsStopping (Event.WriteFails k MemberPart.Superblock) = Unit {0}
IsStopping (Event.WriteFails k (MemberPart.BitmapSector b)) = Unit {0}
IsStopping e = ⊥

-- An event of `stop` in memory.
abbrev pub IsCleaning : Event → Type 0
IsCleaning (Event.ClearIdle c) = Unit {0}
IsCleaning Event.MakeClean = Unit {0}
IsCleaning e = ⊥

-- What `stop` stores: superblocks, each with the first sector of its bitmap, and marks where they were
-- cleared.
abbrev pub IsStoringIf : Bool → Event → Type 0
IsStoringIf true e = IsStoring e
IsStoringIf false e = IsRecording e

-- `stop` clears the marks of an array that is resynced and not degraded.
abbrev pub clears_marks : ArrayView → Bool
clears_marks a = a.resynced && not (is_degraded a)

-- `stop` makes an array clean that is resynced and active.
abbrev pub makes_clean : ArrayView → Bool
makes_clean a = a.resynced && not (a.shared.resync_offset == clean_offset)

-- `stop` may be done: nothing is in flight, and the count rises where it has to.
pub record MayStopArray (a : ArrayView) : Type 0 where
  pub idle : IsIdle a
  pub unspent : makes_clean a ≡ true → HasSpentEvents a → ⊥

-- The marks after `stop`.
pub record IsCleared (old new : ArrayView) : Type 0 where
  pub chunks : new.marks.chunks ≡ old.marks.chunks
  pub bits : (c : ℕ) → is_set new.marks.bytes c ≡ (not (clears_marks old) && is_set old.marks.bytes c)

-- All that `stop` changes in memory before anything is stored.
pub record IsCleanedInMemory (old new : ArrayView) : Type 0 where
  pub marks : IsCleared old new
  pub array : new ≡ record (cond (makes_clean old) (made_clean old) old) { marks = new.marks }

-- By events in memory alone all is changed in memory that `stop` changes there.
pub record CleansInMemory (old new : MirrorView) : Type 0 where
  pub goes : LeadsBy IsCleaning old new
  pub disks : new.disks ≡ old.disks
  pub array : IsCleanedInMemory old.array new.array

pub record StopsMirror (old new : MirrorView) : Type 0 where
  pub may : MayStopArray old.array
  pub goes : LeadsBy IsStopping old new
  pub cleaned : MirrorView
  pub cleans : CleansInMemory old cleaned
  -- from there on nothing failed, and nothing changed but what is stored
  pub stores : Stores (IsStoringIf (clears_marks old.array)) cleaned new
  -- where the marks were cleared, none is stored on a member in sync
  pub marks : clears_marks old.array ≡ true → AllInSync new.array (HasAllMarks new.array.marks)
  -- no superblock is due
  pub recorded : AllRecorded new.array

-- A write to member k failed, and that was the end. The marks are those after a stop, and the superblocks of the others are due.
pub record FailsStop (k : ℕ) (old new : MirrorView) : Type 0 where
  pub may : MayStopArray old.array
  pub goes : LeadsBy IsStopping old new
  pub cleaned : MirrorView
  pub cleans : CleansInMemory old cleaned
  pub loses : LosesStoring (IsStoringIf (clears_marks old.array)) k cleaned new
  pub faulty : IsFaulty k new.array
  pub lost : recorded_count new.array < recorded_count old.array
  pub running : new.array.halted ≡ false
  pub marks : IsCleared old.array new.array
  pub resynced : new.array.resynced ≡ old.array.resynced

-- After some of its events a write failed that halted the mirror.
pub record HaltsStop (old new : MirrorView) : Type 0 where
  pub may : MayStopArray old.array
  pub cleaned : MirrorView
  pub cleans : CleansInMemory old cleaned
  pub halts : HaltsAfter only_others only_others (IsStoringIf (clears_marks old.array)) cleaned new
  pub goes : LeadsBy IsStopping old halts.mid

abbrev pub RefusesStop : MirrorView → MirrorView → StopFault → Type 0
RefusesStop old new Halted = RefusesHalted old new ⊎ HaltsStop old new
RefusesStop old new (InFlight number) = Refuses old new (HasInFlight number old.array)
RefusesStop old new EventsFull = Refuses old new (CannotRise old.array)
RefusesStop old new (MemberFailed k) = FailsStop k old new

-- ---- its parts
pub record ClearsIfFull (old new : MirrorView) : Type 0 where
  pub goes : LeadsBy IsCleaning old new
  pub disks : new.disks ≡ old.disks
  pub marks : IsCleared old.array new.array
  pub array : new.array ≡ record old.array { marks = new.array.marks }

pub record CleansIfActive (old new : MirrorView) : Type 0 where
  pub goes : LeadsBy IsCleaning old new
  pub disks : new.disks ≡ old.disks
  pub array : new.array ≡ cond (makes_clean old.array) (made_clean old.array) old.array

abbrev pub HasAllMarksIf : Bool → Bitmap → MemberView → Type 0
HasAllMarksIf clears marks m = clears ≡ true → HasAllMarks marks m

pub record StoresCleaned (clears : Bool) (old new : MirrorView) : Type 0 where
  pub stores : Stores (IsStoringIf clears) old new
  pub marks : clears ≡ true → AllInSync new.array (HasAllMarks old.array.marks)
  pub recorded : AllRecorded new.array
