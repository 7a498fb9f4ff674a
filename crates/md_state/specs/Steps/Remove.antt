-- A member that is not in use leaves (md_kick_rdev_from_array in the kernel's md driver; that the count rises where a spare leaves is
-- this project's own).
use Rattle.std.specs.Prelude.{◌≡◌, ℕ, true, false, cond, not, slice_get, Some}
use Rattle.std.specs.List.{remove}
use Rattle.md_kept_members.specs.View.{MemberView}
use Rattle.md_assembly.specs.States.{is_active, is_spare}
use Rattle.md_faults.specs.declared.step_fault.RemoveFault.{RemoveFault}
use Rattle.md_faults.specs.declared.step_fault.RemoveFault.TheVariants.{Halted, StillActive, EventsFull}
use Rattle.md_state.specs.Steps.Fail.{IsRunningWith}
use Rattle.md_state.specs.Members.{IsMember, is_degraded}
use Rattle.md_kept_members.specs.Membership.Numbers.{roles_without}
use Rattle.md_state.specs.Steps.Rise.{HasSpentEvents, risen}
use Rattle.md_state.specs.Trying.{Refuses, RefusesHalted}
use Rattle.md_state.specs.View.{ArrayView, Disk, MirrorView}

-- the members but for member k: later ones move down by one
abbrev pub taken_out : ArrayView → ℕ → ArrayView
taken_out a k = record a { members = remove a.members k }

-- The entry of its number is that of a failed device, where it has one. None is made.
abbrev pub without_entry : ArrayView → MemberView → ArrayView
without_entry a m = record a { shared = record a.shared { roles = roles_without m.superblock.dev_number a.shared.roles } }

-- the count rises, and the array is as full after it as before
abbrev pub without_spare : ArrayView → MemberView → ArrayView
without_spare a m = without_entry (risen a (not (is_degraded a))) m

-- Where a spare leaves, the count rises. The entry of a member that failed is that of a failed device already. That of a stale one
-- stays until the next rise.
abbrev pub before_leaving : ArrayView → MemberView → ArrayView
before_leaving a m = cond (is_spare m.state) (without_spare a m) a

abbrev pub removed : ArrayView → ℕ → MemberView → ArrayView
removed a k m = taken_out (before_leaving a m) k

-- member k may leave
pub record MayLeave (k : ℕ) (a : ArrayView) (m : MemberView) : Type 0 where
  pub running : a.halted ≡ false
  pub at : IsMember a k m
  pub out : is_active m.state ≡ false
  pub unspent : is_spare m.state ≡ true → HasSpentEvents a → ⊥

pub record Leaves (k : ℕ) (old new : ArrayView) : Type 0 where
  pub member : MemberView
  pub may : MayLeave k old member
  pub array : new ≡ removed old k member

-- member k leaves with its device, and later devices move down by one as their members do
pub record Removes (k : ℕ) (disk : Disk) (old new : MirrorView) : Type 0 where
  pub device : slice_get old.disks k ≡ Some disk
  pub disks : new.disks ≡ remove old.disks k
  pub array : Leaves k old.array new.array

-- a spare leaves, so that the count has to rise, and can't
pub record CannotLeave (k : ℕ) (a : ArrayView) : Type 0 where
  pub running : a.halted ≡ false
  pub member : MemberView
  pub at : IsMember a k member
  pub spare : is_spare member.state ≡ true
  pub spent : HasSpentEvents a

abbrev pub RefusesRemove : ℕ → MirrorView → MirrorView → RemoveFault → Type 0
RefusesRemove k old new Halted = RefusesHalted old new
RefusesRemove k old new StillActive = Refuses old new (IsRunningWith k old.array)
RefusesRemove k old new EventsFull = Refuses old new (CannotLeave k old.array)
