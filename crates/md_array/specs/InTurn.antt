-- Whole calls: the events that a call does, one after another (this project's own).
use Rattle.std.specs.Prelude.{◌≡◌, ◌≢◌, ℕ, ◌<◌, ◌⊎◌, true, false, List, [], ◌∷◌, Option, Some, None}
use Rattle.md_model.specs.Sectors.{block_of}
use Rattle.md_model.specs.Worlds.{Request}
use Rattle.md_model.specs.Content.{Content}
use Rattle.md_model.specs.Events.{Event, MemberPart}
use Rattle.md_bitmap.specs.Marks.{is_set}
use Rattle.md_inflight.specs.Requests.Pending.{PendingView}
use Rattle.md_kept_members.specs.View.{MemberView}
use Rattle.md_state.specs.View.{ArrayView, Disk, MirrorView}
use Rattle.md_state.specs.Members.{IsInSync, IsMember}
use Rattle.md_state.specs.DiskWrites.{AtDevice}
use Rattle.md_state.specs.Steps.Begin.{Begins}
use Rattle.md_state.specs.Steps.ClearIdle.{Clears}
use Rattle.md_state.specs.Steps.Fail.{FailsMember}
use Rattle.md_state.specs.Steps.Finish.{Finishes}
use Rattle.md_state.specs.Steps.MakeClean.{MakesClean}
use Rattle.md_state.specs.Steps.Remove.{Removes}
use Rattle.md_state.specs.Steps.StoreMarks.{FailsToStoreMarks, HaltsStoringMarks, StoresMarkSector}
use Rattle.md_state.specs.Steps.WriteMember.{FailsToWrite, HaltsWritingTo, IsNotDue, WritesTo}
use Rattle.md_state.specs.Requests.{request_of}
use Rattle.md_state.specs.Steps.CopyData.{CopiesSector, FailsToCopy, HaltsCopying}
use Rattle.md_array.specs.Steps.Record.{FailsToRecord, HaltsRecording, Records, super_write}
use Rattle.md_array.specs.Steps.Enrol.{HoldsContent}
use Rattle.md_array.specs.Steps.EnrolEvents.{DidEnrol, IsHeldBy, Prepares}
use Rattle.md_array.specs.Steps.Fill.{Fills}
use Rattle.md_array.specs.Steps.RecordTarget.{FailsOnTarget}
use Rattle.md_array.specs.Steps.NoteResynced.{BecomesResynced, NotesResynced}
use Rattle.md_array.specs.Steps.Add.{Adds, add_event}
use Rattle.md_array.specs.Steps.Admit.{DidAdmit}
use Rattle.md_array.specs.Steps.Checkpoint.{DidCheckpoint}
use Rattle.md_array.specs.Steps.StoreLog.{FailsToStoreLog, HaltsStoringLog, StoresLog}
use Rattle.md_array.specs.Steps.LowerOffset.{LowersOffset}
use Rattle.md_array.specs.Steps.NoteBad.{NotesSectors, within}
use Rattle.md_array.specs.Steps.ReAdd.{ReAdds, re_add_event}
use Rattle.md_array.specs.Spoiling.{SpoilsTarget}
use Rattle.md_array.specs.Events.{Does, IsOldNewOrNone}
use Rattle.md_array.specs.Worlds.{AreHonest}

-- the requests of the model that are in flight, by their numbers
abbrev pub Requests : Type 0
Requests = ℕ → Option Request

-- What is asked of the devices: where the event is a superblock's write that failed, that it left the old one, the new one or none; where
-- a member comes into sync, or a rebuild is recorded so far, that some content is held.
abbrev pub LeftWhole : MirrorView → Event → MirrorView → Type 0
LeftWhole old (Event.WriteFails k MemberPart.Superblock) new =
    (m : MemberView) → IsMember old.array k m → AtDevice k old.disks new.disks (IsOldNewOrNone (super_write old.array m).bytes)
LeftWhole old (Event.RecordTargetFails k) new =
    (m : MemberView) → IsMember old.array k m → AtDevice k old.disks new.disks (IsOldNewOrNone (super_write old.array m).bytes)
LeftWhole old (Event.Checkpoint k sure listed) new = (content : Content) × HoldsContent old.disks old.array content
LeftWhole old (Event.Enrol k role listed) new = (content : Content) × IsHeldBy k listed content old
LeftWhole old e new = Unit {0}

-- Right before the superblock of a member in sync comes the first sector of its bitmap.
abbrev pub HeaderFirst : Option Event → ArrayView → ℕ → Type 0
HeaderFirst previous a k = (m : MemberView) → IsInSync a k m → previous ≡ Some (Event.StoreMarks k 0)

-- The superblocks of members in sync come first, by index.
abbrev pub InSyncFirst : ArrayView → ℕ → Type 0
InSyncFirst a k = (j : ℕ) (m : MemberView) → IsInSync a j m → ((n : MemberView) → IsInSync a k n → j < k) → IsNotDue m

-- member k's superblock is written in its turn, where it is due
pub record IsRecordDue (previous : Option Event) (a : ArrayView) (k : ℕ) : Type 0 where
  pub due : (m : MemberView) → IsMember a k m → m.due ≡ true
  pub header : HeaderFirst previous a k
  pub first : InSyncFirst a k

-- of this sector of its bitmap the member has all marks stored as they are in memory
abbrev pub HasSector : ArrayView → ℕ → MemberView → Type 0
HasSector a block m = (c : ℕ) → block_of c ≡ block → c < a.marks.chunks → is_set m.stored.bytes c ≡ is_set a.marks.bytes c

-- A sector of a bitmap is written where some mark of it is not stored; the first one also right before a superblock.
abbrev pub IsSectorDue : ArrayView → ℕ → ℕ → Type 0
IsSectorDue a k block = (m : MemberView) → IsInSync a k m → (HasSector a block m → ⊥) ⊎ ((block ≡ 0) × (m.due ≡ true))

-- what is asked of an event by the one right before it and by the mirror. That marks and records come before data, the model asks.
abbrev pub IsInOrder : Option Event → ArrayView → Event → Type 0
IsInOrder previous a (Event.Record k) = IsRecordDue previous a k
IsInOrder previous a (Event.WriteFails k MemberPart.Superblock) = IsRecordDue previous a k
IsInOrder previous a (Event.StoreMarks k b) = IsSectorDue a k b
IsInOrder previous a (Event.WriteFails k (MemberPart.BitmapSector b)) = IsSectorDue a k b
IsInOrder previous a e = Unit {0}

-- the request in flight under a number is this one of a caller
pub record IsUnder (n : ℕ) (p : PendingView) (requests : Requests) : Type 0 where
  pub number : p.ticket.number ≡ n
  pub request : requests n ≡ Some (request_of p)

-- under a number stands this, and under the others what stood there
pub record IsPut (n : ℕ) (r : Option Request) (before after : Requests) : Type 0 where
  pub at : after n ≡ r
  pub others : (m : ℕ) → m ≢ n → after m ≡ before m

-- A device was taken back, by this event.
pub record DidReAdd (e : Event) (old new : MirrorView) : Type 0 where
  pub index : ℕ
  pub device : Disk
  pub re_adds : ReAdds index device old new
  pub event : e ≡ re_add_event index device old new re_adds

-- A device was added, by this event.
pub record DidAdd (e : Event) (old new : MirrorView) : Type 0 where
  pub index : ℕ
  pub device : Disk
  pub adds : Adds index device old new
  pub event : e ≡ add_event index device old new adds

-- What the step's own contract says of it, whatever its device is, and what requests are in flight after it. A member is filled
-- while its device is lent.
abbrev pub Did : MirrorView → Requests → Event → MirrorView → Requests → Type 0
Did old before (Event.Begin n r) new after =
    (sector : ℕ) × (bytes : List ℕ) × (p : PendingView) × IsUnder n p after × IsPut n (Some r) before after × Begins sector bytes old new p
Did old before (Event.Record k) new after = (after ≡ before) × Records k old new
Did old before (Event.StoreMarks k b) new after = (after ≡ before) × StoresMarkSector k b old new
Did old before (Event.WriteMember n k) new after =
    (p q : PendingView) × IsUnder n p before × IsUnder n q after × IsPut n (Some (request_of q)) before after × WritesTo k old new p q
Did old before (Event.Finish n) new after = (p : PendingView) × IsUnder n p before × IsPut n None before after × Finishes old new p
Did old before (Event.ClearIdle c) new after = (after ≡ before) × Clears c old new
Did old before Event.MakeClean new after = (after ≡ before) × MakesClean old new
Did old before (Event.Fail k) new after = (after ≡ before) × FailsMember k old new
Did old before (Event.Remove k) new after = (after ≡ before) × ((disk : Disk) × Removes k disk old new)
Did old before (Event.Add number left) new after = (after ≡ before) × DidAdd (Event.Add number left) old new
Did old before (Event.ReAdd own offset device left) new after = (after ≡ before) × DidReAdd (Event.ReAdd own offset device left) old new
Did old before (Event.LowerOffset k s) new after = (after ≡ before) × LowersOffset k s old new
Did old before (Event.WriteFails k MemberPart.Superblock) new after = (after ≡ before) × FailsToRecord k old new
Did old before (Event.WriteFails k (MemberPart.BitmapSector b)) new after = (after ≡ before) × FailsToStoreMarks k b old new
Did old before (Event.WriteFails k (MemberPart.RequestData n)) new after =
    (p q : PendingView) × IsUnder n p before × IsUnder n q after × IsPut n (Some (request_of q)) before after × FailsToWrite k old new p q
Did old before (Event.Copy from k s) new after = (after ≡ before) × CopiesSector from k s old new
Did old before (Event.WriteFails k (MemberPart.CopiedSectors s n)) new after = (after ≡ before) × FailsToCopy k s n old new
Did old before Event.Resynced new after = (after ≡ before) × BecomesResynced old new
Did old before Event.Unresynced new after = (after ≡ before) × NotesResynced false old new
Did old before (Event.Fill k) new after = (after ≡ before) × Fills k old new
Did old before (Event.Prepare k) new after = (after ≡ before) × Prepares k old new
Did old before (Event.RecordTargetFails k) new after = (after ≡ before) × FailsOnTarget k old new
Did old before (Event.SpoilTarget k) new after = (after ≡ before) × SpoilsTarget k old new
Did old before (Event.Enrol k role listed) new after = (after ≡ before) × DidEnrol (Event.Enrol k role listed) old new
Did old before (Event.Admit k role listed) new after = (after ≡ before) × DidAdmit (Event.Admit k role listed) old new
Did old before (Event.Checkpoint k sure listed) new after = (after ≡ before) × DidCheckpoint (Event.Checkpoint k sure listed) old new
Did old before (Event.NoteBad k more) new after = (after ≡ before) × NotesSectors k (within old more) old new
Did old before (Event.StoreLog k listed) new after = (after ≡ before) × StoresLog k old new
Did old before (Event.WriteFails k MemberPart.Log) new after = (after ≡ before) × FailsToStoreLog k old new

-- From this mirror, with these requests in flight, the events were done one after another, the first of them after this one, and
-- then it holds of where they lead. What each step did is said of any devices. It is an event of the model where they do what they
-- answer, but for a superblock's write that failed and left something other than the old superblock, the new one or none.
abbrev pub InTurn : Option Event → MirrorView → Requests → List Event → (MirrorView → Requests → Type 0) → Type 0
InTurn previous old before [] Then = Then old before
InTurn previous old before (e ∷ es) Then =
    (mid : MirrorView) × (between : Requests) × IsInOrder previous old.array e × Did old before e mid between
    × (AreHonest old.disks → LeftWhole old e mid → Does old before e mid between) × InTurn (Some e) mid between es Then

-- These events lead from the one mirror to the other, with their requests.
abbrev pub Leads : Option Event → MirrorView → Requests → List Event → MirrorView → Requests → Type 0
Leads previous old before es new after = InTurn previous old before es (λ m r. (m ≡ new) × (r ≡ after))

-- each event of a list is such
abbrev pub AllOf : (Event → Type 0) → List Event → Type 0
AllOf Of [] = Unit {0}
AllOf Of (e ∷ es) = Of e × AllOf Of es

-- each failed write of a superblock on the way left the old one, the new one or none
abbrev pub AllLeftWhole : (es : List Event) (previous : Option Event) (old : MirrorView) (before : Requests) (Then : MirrorView → Requests → Type 0)
    → InTurn previous old before es Then → Type 0
AllLeftWhole [] previous old before Then t = Unit {0}
AllLeftWhole (e ∷ es) previous old before Then t = (whole : LeftWhole old e t.0) × AllLeftWhole es (Some e) t.0 t.1 Then t.5

-- The write of this event failed on a member that can't be made faulty, and the mirror is halted.
abbrev pub HaltsAt : MirrorView → Requests → Event → MirrorView → Type 0
HaltsAt old before (Event.WriteFails k MemberPart.Superblock) new = HaltsRecording k old new
HaltsAt old before (Event.WriteFails k (MemberPart.BitmapSector b)) new = HaltsStoringMarks k b old new
HaltsAt old before (Event.WriteFails k (MemberPart.RequestData n)) new = (p q : PendingView) × IsUnder n p before × HaltsWritingTo k old new p q
HaltsAt old before (Event.WriteFails k (MemberPart.CopiedSectors s n)) new = HaltsCopying k s n old new
HaltsAt old before (Event.WriteFails k MemberPart.Log) new = HaltsStoringLog k old new
HaltsAt old before e new = ⊥
