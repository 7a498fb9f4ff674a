-- A request that each member in sync has is no longer in flight.
use Rattle.std.specs.Prelude.{◌≡◌, ℕ, true, false}
use Rattle.md_inflight.specs.Inflight as inflight
use Rattle.md_inflight.specs.Requests.Pending.{PendingView, has_written}
use Rattle.md_kept_members.specs.View.{MemberView}
use Rattle.md_faults.specs.declared.step_fault.FinishFault.{FinishFault}
use Rattle.md_faults.specs.declared.step_fault.FinishFault.TheVariants.{Halted, Unwritten, MustRecord}
use Rattle.md_state.specs.View.{ArrayView, MirrorView}
use Rattle.md_state.specs.Trying.{Refuses, RefusesHalted}
use Rattle.md_state.specs.Members.{AllInSync, IsFirstInSyncWithout}
use Rattle.md_state.specs.Steps.WriteMember.{IsNotDue}

abbrev pub HasBytesOf : PendingView → MemberView → Type 0
HasBytesOf p m = has_written p m.superblock.dev_number ≡ true

pub record MayFinish (a : ArrayView) (p : PendingView) : Type 0 where
  pub running : a.halted ≡ false
  pub written : AllInSync a (HasBytesOf p)
  pub recorded : AllInSync a IsNotDue

pub record Finishes (old new : MirrorView) (p : PendingView) : Type 0 where
  pub may : MayFinish old.array p
  pub disks : new.disks ≡ old.disks
  pub array : new.array ≡ record old.array { requests = record old.array.requests { entries = inflight.entries_without old.array.requests.entries p.ticket.number } }

-- member k lacks the request's bytes
pub record LacksBytes (k : ℕ) (a : ArrayView) (p : PendingView) : Type 0 where
  pub running : a.halted ≡ false
  pub first : IsFirstInSyncWithout a (HasBytesOf p) k

-- member k's superblock has to be stored first: it may have to tell of a failure
pub record LacksRecordToFinish (k : ℕ) (a : ArrayView) (p : PendingView) : Type 0 where
  pub running : a.halted ≡ false
  pub written : AllInSync a (HasBytesOf p)
  pub first : IsFirstInSyncWithout a IsNotDue k

abbrev pub RefusesFinish : MirrorView → MirrorView → PendingView → FinishFault → Type 0
RefusesFinish old new p Halted = RefusesHalted old new
RefusesFinish old new p (Unwritten k) = Refuses old new (LacksBytes k old.array p)
RefusesFinish old new p (MustRecord k) = Refuses old new (LacksRecordToFinish k old.array p)
