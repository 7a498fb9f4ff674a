-- A spare is admitted: it takes a role, and is recovering from then on (remove_and_add_spares and md_start_sync in the kernel's md driver;
-- which role it gets, that the count rises at once, and that its superblock is stored before any other, are this project's own).
use Rattle.std.specs.Prelude.{◌≡◌, ◌⊎◌, ℕ, ◌<◌, ◌≤◌, true, false, map, set}
use Rattle.md_kept_members.specs.Members.{made_due}
use Rattle.md_kept_members.specs.TakingBack.{admitted_member}
use Rattle.md_kept_members.specs.View.{MemberView}
use Rattle.md_faults.specs.declared.admit_fault.AdmitFault.{AdmitFault}
use Rattle.md_faults.specs.declared.admit_fault.AdmitFault.TheVariants.{Halted, NoRole, EventsFull, TargetFault, NoMemory}
use Rattle.md_kept_members.specs.Membership.Joining.{joined_shared}
use Rattle.md_kept_members.specs.Membership.Roles.{AreAllTaken, IsLeastFree}
use Rattle.md_state.specs.Members.{IsMember}
use Rattle.md_state.specs.Steps.Rise.{HasSpentEvents}
use Rattle.md_state.specs.View.{ArrayView}

-- ---- its role
-- A member gets a role, if a superblock has room for its number.
pub record GetsRole (a : ArrayView) (m : MemberView) (role : ℕ) : Type 0 where
  pub small : m.superblock.dev_number < 1920
  pub least : IsLeastFree a.shared.raid_disks a.members role

abbrev pub GetsNoRole : ArrayView → MemberView → Type 0
GetsNoRole a m = (1920 ≤ m.superblock.dev_number) ⊎ AreAllTaken a.shared.raid_disks a.members

-- ---- whether it may be admitted
pub record MayAdmit (k : ℕ) (a : ArrayView) (role : ℕ) : Type 0 where
  pub running : a.halted ≡ false
  pub member : MemberView
  pub at : IsMember a k member
  pub gets : GetsRole a member role
  pub unspent : HasSpentEvents a → ⊥

pub record HasNoRoleLeft (k : ℕ) (a : ArrayView) : Type 0 where
  pub running : a.halted ≡ false
  pub member : MemberView
  pub at : IsMember a k member
  pub none : GetsNoRole a member

-- the count has to rise, and can't
pub record CannotCountAdmit (k : ℕ) (a : ArrayView) : Type 0 where
  pub running : a.halted ≡ false
  pub member : MemberView
  pub at : IsMember a k member
  pub role : ℕ
  pub gets : GetsRole a member role
  pub spent : HasSpentEvents a

-- why it is not, before anything is written
abbrev pub RefusesToAdmit : ℕ → ArrayView → AdmitFault → Type 0
RefusesToAdmit k a Halted = a.halted ≡ true
RefusesToAdmit k a NoRole = HasNoRoleLeft k a
RefusesToAdmit k a EventsFull = CannotCountAdmit k a
RefusesToAdmit k a TargetFault = ⊥
RefusesToAdmit k a NoMemory = ⊥

-- ---- the array with it
-- The count has risen, and each superblock but its own is due. As a role was free the array is degraded: events_cleared stays.
abbrev pub admitted : ArrayView → ℕ → MemberView → ℕ → ArrayView
admitted a k m role =
    record a {
      shared = joined_shared a.shared a.members m.superblock.dev_number role;
      members = set (map made_due a.members) k (admitted_member role m);
    }
