-- A member fails: by a call, or since a write to it failed.
use Rattle.std.specs.Prelude.{◌≡◌, ℕ, true, false}
use Rattle.md_assembly.specs.States.{is_active}
use Rattle.md_kept_members.specs.Members.{HasOtherInSync, IsLastInSync}
use Rattle.md_kept_members.specs.View.{MemberView}
use Rattle.md_faults.specs.declared.step_fault.StoreFault.{StoreFault}
use Rattle.md_faults.specs.declared.step_fault.StoreFault.TheVariants as store
use Rattle.md_faults.specs.declared.step_fault.WriteMemberFault.{WriteMemberFault}
use Rattle.md_faults.specs.declared.step_fault.WriteMemberFault.TheVariants as write
use Rattle.md_faults.specs.declared.step_fault.FailFault.{FailFault}
use Rattle.md_faults.specs.declared.step_fault.FailFault.TheVariants.{Halted, NotActive, LastMember, EventsFull}
use Rattle.md_state.specs.View.{ArrayView, MirrorView}
use Rattle.md_state.specs.Steps.Rise.{Fails, Halts, HasSpentEvents}
use Rattle.md_state.specs.Members.{IsMember}
use Rattle.md_state.specs.Trying.{Refuses, RefusesHalted}

-- What a call answers where a write to a member failed.
-- member k may become faulty
pub record MayFail (a : ArrayView) (k : ℕ) : Type 0 where
  pub other : HasOtherInSync a.members k
  pub unspent : HasSpentEvents a → ⊥

-- the member is faulty, or the mirror is halted
abbrev pub AnswersStore : ℕ → ArrayView → ArrayView → StoreFault → Type 0
AnswersStore k old new (store.MemberFailed j) = (j ≡ k) × Fails k old new
AnswersStore k old new store.Halted = Halts k old new
AnswersStore k old new store.NotActive = ⊥

abbrev pub AnswersWrite : ℕ → ArrayView → ArrayView → WriteMemberFault → Type 0
AnswersWrite k old new (write.MemberFailed j) = (j ≡ k) × Fails k old new
AnswersWrite k old new write.Halted = Halts k old new
AnswersWrite k old new _ = ⊥

-- A member is failed by a call (set_disk_faulty and md_error in the kernel's md driver; which members may be failed, and that the
-- count rises at once, are this project's own).
-- the mirror runs, and member k is active
pub record IsRunningWith (k : ℕ) (a : ArrayView) : Type 0 where
  pub running : a.halted ≡ false
  pub member : MemberView
  pub at : IsMember a k member
  pub active : is_active member.state ≡ true

pub record MayBeFailed (k : ℕ) (a : ArrayView) : Type 0 where
  pub runs : IsRunningWith k a
  pub may : MayFail a k

-- Member k is faulty, and the count has risen. No device is used.
pub record FailsMember (k : ℕ) (old new : MirrorView) : Type 0 where
  pub runs : IsRunningWith k old.array
  pub disks : new.disks ≡ old.disks
  pub array : Fails k old.array new.array

-- Member k is neither in sync nor recovering.
pub record IsNotActive (k : ℕ) (a : ArrayView) : Type 0 where
  pub running : a.halted ≡ false
  pub member : MemberView
  pub at : IsMember a k member
  pub out : is_active member.state ≡ false

-- No member but member k is in sync. As some member is so while the mirror runs, it is this one.
pub record IsLastMember (k : ℕ) (a : ArrayView) : Type 0 where
  pub runs : IsRunningWith k a
  pub last : IsLastInSync a.members k

-- the count has to rise, and can't
pub record CannotBeCounted (k : ℕ) (a : ArrayView) : Type 0 where
  pub runs : IsRunningWith k a
  pub other : HasOtherInSync a.members k
  pub spent : HasSpentEvents a

abbrev pub RefusesFail : ℕ → MirrorView → MirrorView → FailFault → Type 0
RefusesFail k old new Halted = RefusesHalted old new
RefusesFail k old new NotActive = Refuses old new (IsNotActive k old.array)
RefusesFail k old new LastMember = Refuses old new (IsLastMember k old.array)
RefusesFail k old new EventsFull = Refuses old new (CannotBeCounted k old.array)
