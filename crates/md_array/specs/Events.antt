-- The steps as events of the model: what each makes of the world, where devices do what they answer.
use Rattle.std.specs.Prelude.{◌≡◌, ◌≢◌, ◌⊎◌, ⊤, ℕ, ◌+◌, ◌*◌, ◌<◌, ◌≤◌, Bool, true, List, [], ◌∷◌, ◌++◌, length, slice_get, None, Option, Some, Result, MatchResult}
use Rattle.std.specs.List.{remove}
use Rattle.md_device.specs.Splice.{part}
use Rattle.md_super.specs.Log.{has_bad_block_log}
use Rattle.md_members.specs.Areas.{bitmap_sectors}
use Rattle.md_model.specs.Sectors.{put}
use Rattle.md_model.specs.Devices.{Super}
use Rattle.md_model.specs.Rebuilding.{is_target}
use Rattle.md_model.specs.Worlds.{Request, World}
use Rattle.md_model.specs.Content.{Content, Becomes, HoldsBetween, HoldsInFlight}
use Rattle.md_model.specs.Events.{Event, MemberPart, Step}
use Rattle.md_model.specs.Runs.{failed_after}
use Rattle.md_inflight.specs.Requests.Pending.{PendingView}
use Rattle.md_kept_members.specs.View.{MemberView}
use Rattle.md_faults.specs.declared.step_fault.StoreFault.{StoreFault}
use Rattle.md_faults.specs.declared.step_fault.StoreFault.TheVariants.{MemberFailed}
use Rattle.md_faults.specs.declared.step_fault.WriteMemberFault.{WriteMemberFault}
use Rattle.md_faults.specs.declared.step_fault.WriteMemberFault.TheVariants as write_fault
use Rattle.md_kept_members.specs.OnDevices.Storing.{sector_from_super}
use Rattle.md_state.specs.DeviceChanges.{IsLeftAlone, LeavesOn, StaysHonest}
use Rattle.md_state.specs.View.{ArrayView, Disk, MirrorView, of_disks, geometry_of}
use Rattle.md_state.specs.Members.{IsMember}
use Rattle.md_state.specs.Steps.CopyData.{IsDone}
use Rattle.md_state.specs.DiskWrites.{AtDevice, IsFailed, IsTried, IsWritten}
use Rattle.md_state.specs.Requests.{AreInFlight, among, request_of}
use Rattle.md_array.specs.Consistency.{IsConsistent}
use Rattle.md_array.specs.Steps.Lend.{IsBesideUnsaid}
use Rattle.md_array.specs.ReadAsKept.{AreReadAsKept, misread_after}
use Rattle.md_array.specs.Steps.Record.{super_write}
use Rattle.md_array.specs.Worlds.{AreHonest, stored_on, world_of, super_in, block_on}
use Rattle.md_members.specs.DeviceWrites.Writes.{DoesWrites, Write}

-- A device that had this superblock is written once, and stands after the others then, none of which is used.
pub record WritesLast (own : Super) (before after : List Disk) : Type 0 where
  pub was : Disk
  pub super : super_in (block_on was.content) ≡ Some own
  pub honest : was.honest ≡ true
  pub write : Write
  pub written : IsWritten (length before) write (before ++ was ∷ []) after

-- Device k is among these no more. None is used.
pub record GoesAway (k : ℕ) (before after : List Disk) : Type 0 where
  pub was : Disk
  pub at : slice_get before k ≡ Some was
  pub others : after ≡ remove before k

-- A device was written, by several writes, and stands after the others then, none of which is used.
pub record ComesLast (before after : List Disk) : Type 0 where
  pub was : Disk
  pub honest : was.honest ≡ true
  pub now : Disk
  pub writes : List Write
  pub done : DoesWrites of_disks writes was now
  pub disks : after ≡ before ++ now ∷ []

-- Device k alone was written: the others may have been read. What it holds then stands in this relation to what it held, and so does
-- what a crash leaves of it.
pub record IsChangedAlone (k : ℕ) (Related : List ℕ → List ℕ → Type 0) (before after : List Disk) : Type 0 where
  pub as_many : length after ≡ length before
  pub others : (j : ℕ) → j ≢ k → AtDevice j before after (λ d e. StaysHonest d e × IsLeftAlone d e)
  pub stays : AtDevice k before after StaysHonest
  pub size : AtDevice k before after (λ d e. length e.content ≡ length d.content)
  pub changed : AtDevice k before after (λ d e. d.honest ≡ true → Related d.content e.content)
  pub within : AtDevice k before after (λ d e. d.honest ≡ true → LeavesOn (Related d.content) d e)

-- two contents of a member's device that are the same beside each chunk that it lacks, and of which its superblock does not say that it
-- has it
pub record IsSameBesideUnsaid (a : ArrayView) (m : MemberView) (old new : List ℕ) : Type 0 where
  pub size : length new ≡ length old
  pub beside : (at n : ℕ) → IsBesideUnsaid a m at n → part new at n ≡ part old at n

-- n bytes of a device lie beside an area of so many sectors from this one on
abbrev pub IsBesideArea : ℕ → ℕ → ℕ → ℕ → Type 0
IsBesideArea start sectors at n = (at + n ≤ 512 * start) ⊎ (512 * (start + sectors) ≤ at)

-- These bytes lie beside the bitmap of a member, and beside its log.
pub record IsBesideMarks (m : MemberView) (at n : ℕ) : Type 0 where
  pub bitmap : IsBesideArea (sector_from_super m.superblock.bitmap_offset) (bitmap_sectors m.stored.chunks) at n
  pub log : has_bad_block_log m.superblock ≡ true → IsBesideArea (sector_from_super m.superblock.bblog_offset) m.superblock.bblog_size at n

-- two contents of a member's device that are the same but for its bitmap and its log
pub record IsSameBesideMarks (m : MemberView) (old new : List ℕ) : Type 0 where
  pub size : length new ≡ length old
  pub beside : (at n : ℕ) → IsBesideMarks m at n → part new at n ≡ part old at n

-- A write failed, and any bytes may stand in its range. What a crash within it leaves is not told here.
pub record HasWriteFailed (k : ℕ) (w : Write) (before after : List Disk) : Type 0 where
  pub tried : IsTried k w before after
  pub failed : AtDevice k before after (λ d e. d.honest ≡ true → d.failures < e.failures)

-- The devices before and after an event: one is written at most, and once, but for a new one, and for one that is filled or prepared. The
-- sectors of one write of a resync are an event each. Of the write by which a member comes into sync, and of one that spoils a member, no
-- crash is told here: those of an enrolment are told with the writes before it.
abbrev pub WritesOnce : Event → List Disk → List Disk → Type 0
WritesOnce (Event.Record k) before after = (w : Write) × IsWritten k w before after
WritesOnce (Event.StoreMarks k b) before after = (w : Write) × (length w.bytes ≡ 512) × IsWritten k w before after
WritesOnce (Event.WriteMember n k) before after = (w : Write) × IsWritten k w before after
WritesOnce (Event.WriteFails k which) before after = (w : Write) × IsFailed k w before after
WritesOnce (Event.Copy from k s) before after = (w : Write) × (length w.bytes ≡ 512) × IsDone k w before after
WritesOnce Event.Resynced before after = after ≡ before
WritesOnce Event.Unresynced before after = after ≡ before
WritesOnce (Event.Remove k) before after = GoesAway k before after
WritesOnce (Event.Add number left) before after = ComesLast before after
WritesOnce (Event.ReAdd own offset device left) before after = WritesLast own before after
WritesOnce Event.MakeClean before after = after ≡ before
WritesOnce (Event.Begin n p) before after = after ≡ before
WritesOnce (Event.Finish n) before after = after ≡ before
WritesOnce (Event.ClearIdle c) before after = after ≡ before
WritesOnce (Event.Fail k) before after = after ≡ before
WritesOnce (Event.LowerOffset k s) before after = after ≡ before
WritesOnce (Event.Fill k) before after = (a : ArrayView) × (m : MemberView) × IsChangedAlone k (IsSameBesideUnsaid a m) before after
WritesOnce (Event.Prepare k) before after = (m : MemberView) × IsChangedAlone k (IsSameBesideMarks m) before after
WritesOnce (Event.RecordTargetFails k) before after = (w : Write) × IsFailed k w before after
WritesOnce (Event.SpoilTarget k) before after = (w : Write) × HasWriteFailed k w before after
WritesOnce (Event.Enrol k role listed) before after = (w : Write) × IsDone k w before after
WritesOnce (Event.Admit k role listed) before after = (w : Write) × IsWritten k w before after
WritesOnce (Event.Checkpoint k sure listed) before after = (w : Write) × IsWritten k w before after
WritesOnce (Event.NoteBad k more) before after = after ≡ before
WritesOnce (Event.StoreLog k listed) before after = (after ≡ before) ⊎ ((w : Write) × IsWritten k w before after)

-- what device k lists then
abbrev pub listed_on : MirrorView → ℕ → ℕ → Bool
listed_on v k = (stored_on v.array (slice_get v.array.members k) (slice_get v.disks k)).listed

-- The device of member k lists each sector that its list in memory has. So it does still, if the member is rebuilt.
abbrev pub ListsIn : World → ℕ → Type 0
ListsIn w k = (s : ℕ) → w.bad k s ≡ true → (w.stored k).listed s ≡ true

abbrev pub ListsStill : ℕ → World → World → Type 0
ListsStill k w w' = is_target (w.state k) ≡ true → ListsIn w k → ListsIn w' k

-- The model's events of a superblock of a member that is rebuilt let its list be any. By the calls that do them the log stays, and the
-- superblock that is stored tells of it.
abbrev pub KeepsLists : Event → World → World → Type 0
KeepsLists (Event.Record k) w w' = ListsStill k w w'
KeepsLists (Event.RecordTargetFails k) w w' = ListsStill k w w'
KeepsLists (Event.Admit k role listed) w w' = ListsStill k w w'
KeepsLists (Event.Checkpoint k sure listed) w w' = ListsStill k w w'
KeepsLists e w w' = ⊤

-- By the event the mirror goes from its world with these requests in flight to that with those. A content that the members in
-- sync held before it, they hold after it, changed as the event says; and who was written of a request in flight has its bytes.
-- An opening reads what is kept, if it did before, but of whom it may misread (`misread_after`). The devices do what they answer
-- still, and one is written at most: what a crash within that leaves is of its write (`crashes_at_steps`).
pub record Does (old : MirrorView) (before : ℕ → Option Request) (e : Event) (new : MirrorView) (after : ℕ → Option Request) : Type 0 where
  pub honest : AreHonest new.disks
  pub writes : WritesOnce e old.disks new.disks
  pub in_flight : AreInFlight new.array after
  pub geometry : geometry_of new.array ≡ geometry_of old.array
  pub step : Step (geometry_of old.array) (world_of old before) e (world_of new after)
  pub content : (a b : Content) → HoldsBetween (geometry_of old.array) a (world_of old before) → Becomes (geometry_of old.array) e (world_of old before) a b
      → HoldsBetween (geometry_of old.array) b (world_of new after)
  pub written : HoldsInFlight (world_of old before) → HoldsInFlight (world_of new after)
  pub sound : IsConsistent new
  pub lists : KeepsLists e (world_of old before) (world_of new after)
  pub read : (failed_at : ℕ) (misread : ℕ → Bool) → AreReadAsKept old failed_at misread
      → AreReadAsKept new (failed_after e (world_of new after) failed_at) (misread_after e old.array (world_of old before) misread)

-- whatever requests of its list are in flight, before and after this
abbrev pub Happens : MirrorView → Event → MirrorView → Type 0
Happens old e new = AreHonest old.disks → (requests : ℕ → Option Request) → AreInFlight old.array requests → Does old requests e new requests

-- A superblock's write that failed left the old superblock, the new one, or one that can't be decoded: the premise on such writes.
abbrev pub IsOldNewOrNone : List ℕ → Disk → Disk → Type 0
IsOldNewOrNone bytes d e = (block_on e.content ≡ block_on d.content) ⊎ ((block_on e.content ≡ bytes) ⊎ (super_in (block_on e.content) ≡ None))

abbrev pub HappensIfOldNewOrNone : ℕ → MirrorView → MirrorView → Type 0
HappensIfOldNewOrNone k old new = (m : MemberView) → IsMember old.array k m
    → AtDevice k old.disks new.disks (IsOldNewOrNone (super_write old.array m).bytes) → Happens old (Event.WriteFails k MemberPart.Superblock) new

-- where the fault is a member's failure
abbrev pub IfStoringFailed : Type 0 → StoreFault → Type 0
IfStoringFailed P (MemberFailed j) = P
IfStoringFailed P _ = ⊤

abbrev pub IfWritingFailed : Type 0 → WriteMemberFault → Type 0
IfWritingFailed P (write_fault.MemberFailed j) = P
IfWritingFailed P _ = ⊤

-- record and store_marks
abbrev pub RecordHappens : ℕ → MirrorView → MirrorView → {T : Type 0} → Result T StoreFault → Type 0
RecordHappens k old new result = MatchResult result (λ _. Happens old (Event.Record k) new) (IfStoringFailed (HappensIfOldNewOrNone k old new))

abbrev pub StoreMarksHappens : ℕ → ℕ → MirrorView → MirrorView → {T : Type 0} → Result T StoreFault → Type 0
StoreMarksHappens k block old new result =
    MatchResult result (λ _. Happens old (Event.StoreMarks k block) new) (IfStoringFailed (Happens old (Event.WriteFails k (MemberPart.BitmapSector block)) new))

-- clear_idle
abbrev pub ClearHappens : ℕ → MirrorView → MirrorView → {T E : Type 0} → Result T E → Type 0
ClearHappens chunk old new result = MatchResult result (λ _. Happens old (Event.ClearIdle chunk) new) (λ _. ⊤)

-- make_clean
abbrev pub CleanHappens : MirrorView → MirrorView → {T E : Type 0} → Result T E → Type 0
CleanHappens old new result = MatchResult result (λ _. Happens old Event.MakeClean new) (λ _. ⊤)

-- write_member: beside the request may be others
abbrev pub HappensAmong : MirrorView → PendingView → Event → MirrorView → PendingView → Type 0
HappensAmong old p e new q =
    AreHonest old.disks → (others : ℕ → Option Request) → AreInFlight old.array others → Does old (among p others) e new (among q others)

abbrev pub WriteMemberHappens : ℕ → MirrorView → MirrorView → PendingView → PendingView → {T : Type 0} → Result T WriteMemberFault → Type 0
WriteMemberHappens k old new p q result =
    MatchResult result (λ _. HappensAmong old p (Event.WriteMember p.ticket.number k) new q)
    (IfWritingFailed (HappensAmong old p (Event.WriteFails k (MemberPart.RequestData p.ticket.number)) new q))

-- begin: the request is in flight from then on
abbrev pub BeginHappens : MirrorView → MirrorView → PendingView → Type 0
BeginHappens old new p =
    AreHonest old.disks → (others : ℕ → Option Request) → AreInFlight old.array others
    → Does old others (Event.Begin p.ticket.number (request_of p)) new (among p others)

-- finish: it is in flight no more
abbrev pub FinishHappens : MirrorView → MirrorView → PendingView → Type 0
FinishHappens old new p =
    AreHonest old.disks → (others : ℕ → Option Request) → AreInFlight old.array others
    → Does old (among p others) (Event.Finish p.ticket.number) new (put p.ticket.number None others)
