-- Before members in sync are made to agree in marked chunks, no recovering member's superblock says any more that the member has them: whoever
-- goes on from its recovery_offset reads what is below it, and asks no mark (md_p.h; this project's own order).
use Rattle.std.specs.Prelude.{◌≡◌, ℕ, ◌*◌, ◌≤◌, true, false, length, min}
use Rattle.md_bitmap.specs.Marks.{IsMarked, IsNextMarked}
use Rattle.md_model.specs.Events.{Event, MemberPart}
use Rattle.md_assembly.specs.States.{is_recovering}
use Rattle.md_kept_members.specs.View.{MemberView}
use Rattle.md_state.specs.Members.{IsMember}
use Rattle.md_state.specs.Steps.WriteMember.{IsNotDue}
use Rattle.md_state.specs.View.{ArrayView, MirrorView}
use Rattle.md_array.specs.InTurn.{AllOf}
use Rattle.md_metadata.specs.Going.{GoesOn, HaltsAfter, only_others}
use Rattle.md_metadata.specs.Storing.{IsNoFailure, IsRecording, LosesStoring, Stores}
use Rattle.md_resync.specs.declared.fault.ResyncFault.{ResyncFault}
use Rattle.md_resync.specs.declared.fault.ResyncFault.TheVariants.{Halted, InFlight, MemberFailed, NoMemory, ReadFault}

-- Sure offsets are lowered in memory, and superblocks are stored that are due, with the first sectors of bitmaps.
abbrev pub IsTelling : Event → Type 0
IsTelling (Event.LowerOffset k s) = Unit {0}
IsTelling (Event.Record k) = Unit {0}
IsTelling (Event.StoreMarks k b) = b ≡ 0
IsTelling (Event.WriteFails k MemberPart.Superblock) = Unit {0}
IsTelling (Event.WriteFails k (MemberPart.BitmapSector b)) = b ≡ 0
IsTelling e = ⊥

-- The superblock that is stored says of no marked chunk, nor of a part of one, that a recovering member has it.
abbrev pub SaysNoneMarked : ArrayView → MemberView → Type 0
SaysNoneMarked a m = is_recovering m.state ≡ true → (c : ℕ) → IsMarked a.marks c → m.stored_offset ≤ c * a.chunks.sectors

abbrev pub AllSayNoneMarked : ArrayView → Type 0
AllSayNoneMarked a = (k : ℕ) (m : MemberView) → IsMember a k m → SaysNoneMarked a m

-- A member is what it was, but for what is stored of it. No superblock becomes due, and that of a recovering member is to say no more than
-- it was.
pub record IsAsTold (m n : MemberView) : Type 0 where
  pub same : n ≡ record m { superblock = record m.superblock { recovery_offset = n.superblock.recovery_offset }; stored = n.stored; due = n.due; stored_offset = n.stored_offset }
  pub recorded : IsNotDue m → IsNotDue n
  pub sure : n.superblock.recovery_offset ≤ m.superblock.recovery_offset
  pub others : is_recovering m.state ≡ false → n.superblock.recovery_offset ≡ m.superblock.recovery_offset

pub record AreAsTold (old new : ArrayView) : Type 0 where
  pub as_many : length new.members ≡ length old.members
  pub each : (k : ℕ) (m n : MemberView) → IsMember old k m → IsMember new k n → IsAsTold m n

-- Each recovering member goes on from this sector, or from where it was if that is below it: no more of its progress is lost.
abbrev pub GoOnFrom : ℕ → ArrayView → ArrayView → Type 0
GoOnFrom sector old new =
    (k : ℕ) (m n : MemberView) → IsMember old k m → IsMember new k n → is_recovering m.state ≡ true → n.superblock.recovery_offset ≡ min m.superblock.recovery_offset sector

-- What recovering members have is told anew, where a superblock said too much. Where no chunk is marked nothing is done.
pub record Tells (old new : MirrorView) : Type 0 where
  pub goes : GoesOn only_others only_others IsTelling old new
  pub unfailing : AllOf IsNoFailure goes.events
  pub members : AreAsTold old.array new.array
  pub array : new.array ≡ record old.array { members = new.array.members }
  pub told : AllSayNoneMarked new.array
  pub as_far : (chunk : ℕ) → IsNextMarked old.array.marks 0 chunk → GoOnFrom (chunk * old.array.chunks.sectors) old.array new.array
  pub unmarked : ((c : ℕ) → IsMarked old.array.marks c → ⊥) → new ≡ old

-- A call was done after that.
pub record AfterTelling (Then : MirrorView → MirrorView → Type 0) (old new : MirrorView) : Type 0 where
  pub told : MirrorView
  pub tells : Tells old told
  pub then : Then told new

-- A write failed before.
pub record HaltsTelling (old new : MirrorView) : Type 0 where
  pub halts : HaltsAfter only_others only_others IsTelling old new
  pub halted : new.array.halted ≡ true

abbrev pub TellingFails : MirrorView → MirrorView → ResyncFault → Type 0
TellingFails old new Halted = HaltsTelling old new
TellingFails old new (InFlight n) = ⊥
TellingFails old new NoMemory = ⊥
TellingFails old new (ReadFault k chunk) = ⊥
TellingFails old new (MemberFailed k) = LosesStoring IsTelling k old new

-- ---- its parts
abbrev pub IsRecoveringRecorded : MemberView → Type 0
IsRecoveringRecorded m = is_recovering m.state ≡ true → IsNotDue m

-- What was due is stored, if it had to be: no recovering member's superblock is.
pub record StoresLowered (old new : MirrorView) : Type 0 where
  pub stores : Stores IsRecording old new
  pub done : (k : ℕ) (m : MemberView) → IsMember new.array k m → IsRecoveringRecorded m
