-- Marks and superblocks are stored on the members, whatever requests are in flight.
use Rattle.std.specs.Prelude.{◌≡◌, ◌⊎◌, ℕ, ◌<◌, true, false, List, [], ◌∷◌, ◌++◌}
use Rattle.md_model.specs.Events.{Event, MemberPart}
use Rattle.md_bitmap.specs.Marks.{Bitmap, is_set}
use Rattle.md_kept_members.specs.View.{MemberView}
use Rattle.md_assembly.specs.States.{is_recorded}
use Rattle.md_state.specs.Members.{IsInSync, IsMember}
use Rattle.md_state.specs.View.{ArrayView, MirrorView}
use Rattle.md_state.specs.Steps.StoreMarks.{StoresMarkSector}
use Rattle.md_state.specs.Steps.WriteMember.{IsNotDue}
use Rattle.md_array.specs.InTurn.{AllOf}
use Rattle.md_array.specs.Steps.Record.{HaltsRecording}
use Rattle.md_metadata.specs.declared.fault.PartFault.{PartFault}
use Rattle.md_metadata.specs.declared.fault.PartFault.TheVariants.{Halted, MemberFailed}
use Rattle.md_metadata.specs.Going.{GoesOn, HaltsAfter, IsFaulty, LosesSomeMember, StepsBy, only_others, recorded_count}

-- ---- kinds of events, done or failed
-- this sector of member k's bitmap is stored
abbrev pub IsSector : ℕ → ℕ → Event → Type 0
IsSector k block (Event.StoreMarks j b) = (j ≡ k) × (b ≡ block)
IsSector k block (Event.WriteFails j (MemberPart.BitmapSector b)) = (j ≡ k) × (b ≡ block)
IsSector k block e = ⊥

-- marks are stored
abbrev pub IsMarking : Event → Type 0
IsMarking (Event.StoreMarks k b) = Unit {0}
IsMarking (Event.WriteFails k (MemberPart.BitmapSector b)) = Unit {0}
IsMarking e = ⊥

-- superblocks are stored, and of bitmaps the first sectors
abbrev pub IsRecording : Event → Type 0
IsRecording (Event.Record k) = Unit {0}
IsRecording (Event.StoreMarks k b) = b ≡ 0
IsRecording (Event.WriteFails k MemberPart.Superblock) = Unit {0}
IsRecording (Event.WriteFails k (MemberPart.BitmapSector b)) = b ≡ 0
IsRecording e = ⊥

-- either
abbrev pub IsStoring : Event → Type 0
IsStoring (Event.Record k) = Unit {0}
IsStoring (Event.StoreMarks k b) = Unit {0}
IsStoring (Event.WriteFails k MemberPart.Superblock) = Unit {0}
IsStoring (Event.WriteFails k (MemberPart.BitmapSector b)) = Unit {0}
IsStoring e = ⊥

-- ---- which of them failed
-- a write to member k failed
abbrev pub IsFailureOf : ℕ → Event → Type 0
IsFailureOf k (Event.WriteFails j part) = j ≡ k
IsFailureOf k e = ⊥

-- no write failed
abbrev pub IsNoFailure : Event → Type 0
IsNoFailure (Event.WriteFails k part) = ⊥
IsNoFailure e = Unit {0}

-- the last of them is a failure of member k, and nothing failed before it
pub record FailsAtLast (k : ℕ) (events : List Event) : Type 0 where
  pub before : List Event
  pub unfailing : AllOf IsNoFailure before
  pub failing : Event
  pub of : IsFailureOf k failing
  pub list : events ≡ before ++ failing ∷ []

-- ---- what is stored, and what stays
-- A member's superblock is due and stored as it was, or was stored as it is kept.
abbrev pub IsToldAs : MemberView → MemberView → Type 0
IsToldAs before n = ((n.due ≡ before.due) × (n.stored_offset ≡ before.stored_offset)) ⊎ ((n.due ≡ false) × (n.stored_offset ≡ n.superblock.recovery_offset))

-- A member is what it was, but for what is stored. What is stored of its marks as they are in memory stays so, and its superblock is
-- not due anew.
pub record StaysReady (old new : ArrayView) (k : ℕ) (n : MemberView) : Type 0 where
  pub before : MemberView
  pub member : IsMember old k before
  pub same : n ≡ record before { stored = n.stored; due = n.due; stored_offset = n.stored_offset }
  pub marked : (c : ℕ) → is_set before.stored.bytes c ≡ is_set old.marks.bytes c → is_set n.stored.bytes c ≡ is_set old.marks.bytes c
  pub recorded : IsNotDue before → IsNotDue n
  pub told : IsToldAs before n

-- nothing failed
pub record AllStayReady (old new : ArrayView) : Type 0 where
  pub each : (k : ℕ) (n : MemberView) → IsMember new k n → StaysReady old new k n
  pub others : new ≡ record old { members = new.members }
  pub halted : new.halted ≡ old.halted

-- member k is kept up to date
pub record IsUpToDate (a : ArrayView) (k : ℕ) : Type 0 where
  pub member : MemberView
  pub at : IsMember a k member
  pub recorded : is_recorded member.state ≡ true

-- by events of a kind something was stored, and nothing failed
pub record Stores (Of : Event → Type 0) (old new : MirrorView) : Type 0 where
  pub goes : GoesOn only_others only_others Of old new
  pub unfailing : AllOf IsNoFailure goes.events
  pub ready : AllStayReady old.array new.array

-- member k was kept up to date and failed, and that was the end
pub record LosesStoring (Of : Event → Type 0) (k : ℕ) (old new : MirrorView) : Type 0 where
  pub loses : LosesSomeMember only_others only_others Of old new
  pub was : IsUpToDate old.array k
  pub last : FailsAtLast k loses.goes.events
  pub faulty : IsFaulty k new.array

-- After something was stored, and nothing failed, a write failed on a member that can't be made faulty, and the mirror is halted.
pub record HaltsStoring (Of : Event → Type 0) (old new : MirrorView) : Type 0 where
  pub halts : HaltsAfter only_others only_others Of old new
  pub unfailing : AllOf IsNoFailure halts.goes.events
  pub ready : AllStayReady old.array halts.mid.array

-- After events of which none failed, whatever became of the members, a write to member k failed, and the mirror is halted.
pub record HaltsAtWrite (Of : Event → Type 0) (k : ℕ) (old new : MirrorView) : Type 0 where
  pub halts : HaltsAfter only_others only_others Of old new
  pub unfailing : AllOf IsNoFailure halts.goes.events
  pub named : IsFailureOf k halts.failing

-- why they do not come to their end
abbrev pub StoringFails : (Event → Type 0) → MirrorView → MirrorView → PartFault → Type 0
StoringFails Of old new Halted = HaltsStoring Of old new
StoringFails Of old new (MemberFailed k) = LosesStoring Of k old new

-- the member that failed, if one did, was in sync
abbrev pub FailsInSync : ArrayView → PartFault → Type 0
FailsInSync a Halted = Unit {0}
FailsInSync a (MemberFailed k) = (m : MemberView) × IsInSync a k m

-- The events came to their end: of member k it holds, if it is in sync.
pub record StoresAt (Of : Event → Type 0) (k : ℕ) (Done : MemberView → Type 0) (old new : MirrorView) : Type 0 where
  pub stores : Stores Of old new
  pub done : (m : MemberView) → IsInSync new.array k m → Done m

-- The events came to their end: of each member in sync before member k it holds.
pub record StoresBelow (Of : Event → Type 0) (k : ℕ) (Done : MemberView → Type 0) (old new : MirrorView) : Type 0 where
  pub stores : Stores Of old new
  pub done : (i : ℕ) (m : MemberView) → i < k → IsInSync new.array i m → Done m

-- The events came to their end: of each member in sync it holds.
pub record StoresAll (Of : Event → Type 0) (Done : MemberView → Type 0) (old new : MirrorView) : Type 0 where
  pub stores : Stores Of old new
  pub done : (i : ℕ) (m : MemberView) → IsInSync new.array i m → Done m

-- A member's superblock is not due, if it is one that is kept up to date.
abbrev pub IsRecorded : MemberView → Type 0
IsRecorded m = is_recorded m.state ≡ true → IsNotDue m

-- The events came to their end: member k's superblock is not due, if it is one that is kept up to date.
pub record RecordsAt (k : ℕ) (old new : MirrorView) : Type 0 where
  pub stores : Stores IsRecording old new
  pub done : (m : MemberView) → IsMember new.array k m → IsRecorded m

pub record RecordsBelow (k : ℕ) (old new : MirrorView) : Type 0 where
  pub stores : Stores IsRecording old new
  pub done : (i : ℕ) (m : MemberView) → i < k → IsMember new.array i m → IsRecorded m

abbrev pub AllRecorded : ArrayView → Type 0
AllRecorded a = (i : ℕ) (m : MemberView) → IsMember a i m → IsRecorded m

pub record RecordsAll (old new : MirrorView) : Type 0 where
  pub stores : Stores IsRecording old new
  pub done : AllRecorded new.array

-- A sector of the bitmap is stored on member k.
pub record StoresOn (k block : ℕ) (old new : MirrorView) : Type 0 where
  pub step : StepsBy only_others only_others (IsSector k block) (Event.StoreMarks k block) old new
  pub ready : AllStayReady old.array new.array
  pub gives : StoresMarkSector k block old new

-- The write of a sector of the bitmap failed on member k: the member is faulty, or the mirror is halted.
abbrev pub SectorFails : ℕ → ℕ → MirrorView → MirrorView → PartFault → Type 0
SectorFails k block old new Halted = HaltsStoring (IsSector k block) old new
SectorFails k block old new (MemberFailed j) = (j ≡ k) × LosesStoring (IsSector k block) k old new

-- Member k's superblock is stored.
pub record RecordsOn (k : ℕ) (old new : MirrorView) : Type 0 where
  pub step : StepsBy only_others only_others IsRecording (Event.Record k) old new
  pub ready : AllStayReady old.array new.array
  pub done : (m : MemberView) → IsMember new.array k m → IsNotDue m

-- The write of member k's superblock failed, and the member is faulty.
pub record LosesRecording (k : ℕ) (old new : MirrorView) : Type 0 where
  pub step : StepsBy only_others only_others IsRecording (Event.WriteFails k MemberPart.Superblock) old new
  pub lost : recorded_count new.array < recorded_count old.array
  pub halted : new.array.halted ≡ old.array.halted
  pub was : IsUpToDate old.array k
  pub faulty : IsFaulty k new.array

-- The write of member k's superblock failed, and the mirror is halted.
pub record HaltsRecordingOn (k : ℕ) (old new : MirrorView) : Type 0 where
  pub stores : HaltsStoring IsRecording old new
  pub at_once : HaltsRecording k old new

abbrev pub RecordingFails : ℕ → MirrorView → MirrorView → PartFault → Type 0
RecordingFails k old new Halted = HaltsRecordingOn k old new
RecordingFails k old new (MemberFailed j) = (j ≡ k) × LosesRecording k old new

-- the member has all marks stored as these are
abbrev pub HasAllMarks : Bitmap → MemberView → Type 0
HasAllMarks marks m = (c : ℕ) → c < marks.chunks → is_set m.stored.bytes c ≡ is_set marks.bytes c
