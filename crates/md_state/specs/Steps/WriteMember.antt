-- A member gets a request's bytes.
use Rattle.std.specs.Prelude.{◌≡◌, ◌⊎◌, ℕ, ◌+◌, ◌≤◌, ◌<◌, ◌/◌, true, false, ◌++◌, [], ◌∷◌}
use Rattle.md_bitmap.specs.Marks.{is_set}
use Rattle.md_members.specs.DeviceWrites.Writes.{Write}
use Rattle.md_inflight.specs.Requests.Pending.{PendingView, has_written, request_sectors}
use Rattle.md_kept_members.specs.View.{MemberView}
use Rattle.md_faults.specs.declared.step_fault.WriteMemberFault.{WriteMemberFault}
use Rattle.md_faults.specs.declared.step_fault.WriteMemberFault.TheVariants.{Halted, NotActive, NotMarked, NotRecorded, AlreadyWritten, MemberFailed}
use Rattle.md_state.specs.View.{ArrayView, MirrorView}
use Rattle.md_kept_members.specs.TakingBack.{member_says_of}
use Rattle.md_state.specs.Members.{IsInSync, IsMember, AllInSync, IsFirstInSyncWithout}
use Rattle.md_state.specs.Steps.Begin.{first_sector}
use Rattle.md_state.specs.DiskWrites.{IsWritten}
use Rattle.md_state.specs.Trying.{Refuses, RefusesHalted, FailsWriting, HaltsWriting}
use Rattle.md_state.specs.OutOfSync.{IsNotInSync}

-- the request's bytes, at its sectors of the member's data area
abbrev pub data_write : MemberView → PendingView → Write
data_write m p = record { sector = m.superblock.data_offset + p.sector; bytes = p.bytes }

-- the member's stored marks have each chunk of the request, whether or not its bitmap is accepted
abbrev pub HasRequestMarks : ArrayView → PendingView → MemberView → Type 0
HasRequestMarks a p m = (s : ℕ) → p.sector ≤ s → s < p.sector + request_sectors p → is_set m.stored.bytes (s / a.chunks.sectors) ≡ true

-- A member's stored marks have the chunks from the first on and below the end.
abbrev pub HasMarksFrom : ℕ → ℕ → MemberView → Type 0
HasMarksFrom first end m = (c : ℕ) → first ≤ c → c < end → is_set m.stored.bytes c ≡ true

abbrev pub IsNotDue : MemberView → Type 0
IsNotDue m = m.due ≡ false

-- no recovering member's superblock says that it has the request's chunks
abbrev pub IsUnsaid : ArrayView → PendingView → MemberView → Type 0
IsUnsaid a p m = member_says_of (first_sector a p.sector) m ≡ false

-- member j is the first whose superblock does
pub record IsFirstToSay (a : ArrayView) (p : PendingView) (j : ℕ) : Type 0 where
  pub member : MemberView
  pub at : IsMember a j member
  pub says : member_says_of (first_sector a p.sector) member ≡ true
  pub earlier : (i : ℕ) (m : MemberView) → i < j → IsMember a i m → IsUnsaid a p m

-- Member k is in sync, and the request's marks and all records are stored: data come last.
pub record HasIntentStored (k : ℕ) (a : ArrayView) (p : PendingView) (m : MemberView) : Type 0 where
  pub running : a.halted ≡ false
  pub in_sync : IsInSync a k m
  pub marked : AllInSync a (HasRequestMarks a p)
  pub recorded : AllInSync a IsNotDue
  pub unsaid : (i : ℕ) (m : MemberView) → IsMember a i m → IsUnsaid a p m

-- Member k lacks the request's bytes, and its intent is stored: the request's marks and all records are.
pub record MayWrite (k : ℕ) (a : ArrayView) (p : PendingView) (m : MemberView) : Type 0 where
  pub intent : HasIntentStored k a p m
  pub unwritten : has_written p m.superblock.dev_number ≡ false

pub record WritesTo (k : ℕ) (old new : MirrorView) (p q : PendingView) : Type 0 where
  pub member : MemberView
  pub may : MayWrite k old.array p member
  pub disks : IsWritten k (data_write member p) old.disks new.disks
  pub array : new.array ≡ old.array
  pub pending : q ≡ record p { written = p.written ++ member.superblock.dev_number ∷ [] }

pub record FailsToWrite (k : ℕ) (old new : MirrorView) (p q : PendingView) : Type 0 where
  pub member : MemberView
  pub may : MayWrite k old.array p member
  pub fails : FailsWriting k (data_write member p) old new
  pub pending : q ≡ p

pub record HaltsWritingTo (k : ℕ) (old new : MirrorView) (p q : PendingView) : Type 0 where
  pub member : MemberView
  pub may : MayWrite k old.array p member
  pub halts : HaltsWriting k (data_write member p) old new
  pub pending : q ≡ p

-- member j lacks marks of the request
pub record LacksMarks (k j : ℕ) (a : ArrayView) (p : PendingView) : Type 0 where
  pub running : a.halted ≡ false
  pub member : MemberView
  pub in_sync : IsInSync a k member
  pub first : IsFirstInSyncWithout a (HasRequestMarks a p) j

-- Member j's superblock has to be stored: it is in sync, or that of all members in sync is stored, and it is recovering, and its
-- superblock says that it has the request's chunks.
pub record LacksRecord (k j : ℕ) (a : ArrayView) (p : PendingView) : Type 0 where
  pub running : a.halted ≡ false
  pub member : MemberView
  pub in_sync : IsInSync a k member
  pub marked : AllInSync a (HasRequestMarks a p)
  pub first : IsFirstInSyncWithout a IsNotDue j ⊎ (AllInSync a IsNotDue × IsFirstToSay a p j)

pub record HasBytes (k : ℕ) (a : ArrayView) (p : PendingView) : Type 0 where
  pub member : MemberView
  pub intent : HasIntentStored k a p member
  pub written : has_written p member.superblock.dev_number ≡ true

abbrev pub RefusesWriteMember : ℕ → MirrorView → MirrorView → PendingView → PendingView → WriteMemberFault → Type 0
RefusesWriteMember k old new p q Halted = (RefusesHalted old new × (q ≡ p)) ⊎ HaltsWritingTo k old new p q
RefusesWriteMember k old new p q NotActive = Refuses old new (IsNotInSync k old.array) × (q ≡ p)
RefusesWriteMember k old new p q (NotMarked j) = Refuses old new (LacksMarks k j old.array p) × (q ≡ p)
RefusesWriteMember k old new p q (NotRecorded j) = Refuses old new (LacksRecord k j old.array p) × (q ≡ p)
RefusesWriteMember k old new p q AlreadyWritten = Refuses old new (HasBytes k old.array p) × (q ≡ p)
RefusesWriteMember k old new p q (MemberFailed j) = (j ≡ k) × FailsToWrite k old new p q
