-- A member that was rebuilt comes into sync (raid1_spare_active of the kernel's md driver; that the count rises at once, and what is
-- stored of it before, are this project's own).
use Rattle.std.specs.Prelude.{◌≡◌, ⊤, ℕ, ◌+◌, Bool, true, false, not, cond, List, map, set}
use Rattle.md_badblocks.specs.declared.run.Run.{Run}
use Rattle.md_assembly.specs.declared.state.MemberState.TheVariants.{Recovering}
use Rattle.md_kept_members.specs.Enrolling.{ComesIntoSync, HasRoomFor}
use Rattle.md_kept_members.specs.SectorLists.{IsListOf, in_chunks}
use Rattle.md_bitmap.specs.Marks.{Bitmap}
use Rattle.md_kept_members.specs.Members.{made_due}
use Rattle.md_kept_members.specs.View.{MemberView}
use Rattle.md_faults.specs.declared.enrol_fault.EnrolFault.{EnrolFault}
use Rattle.md_faults.specs.declared.enrol_fault.EnrolFault.TheVariants.{Halted, EventsFull, LogFull, TargetFault, NoMemory}
use Rattle.md_kept_members.specs.Membership.Joining.{joined_shared}
use Rattle.md_state.specs.Members.{IsMember, is_degraded}
use Rattle.md_state.specs.Steps.Rise.{HasSpentEvents}
use Rattle.md_state.specs.View.{ArrayView}

-- ---- whether it may come into sync
-- Member k may come into sync in this role: it is recovering in it, the mirror runs, and the count can rise.
pub record MayTakeRole (k : ℕ) (a : ArrayView) (role : ℕ) : Type 0 where
  pub running : a.halted ≡ false
  pub member : MemberView
  pub at : IsMember a k member
  pub recovering : member.state ≡ Recovering role
  pub unspent : HasSpentEvents a → ⊥

-- the count has to rise, and can't
pub record CannotCountEnrol (a : ArrayView) : Type 0 where
  pub running : a.halted ≡ false
  pub spent : HasSpentEvents a

-- why it may not, before its list is looked at
abbrev pub RefusesRole : ArrayView → EnrolFault → Type 0
RefusesRole a Halted = a.halted ≡ true
RefusesRole a EventsFull = CannotCountEnrol a
RefusesRole a (LogFull j) = ⊥
RefusesRole a TargetFault = ⊥
RefusesRole a NoMemory = ⊥

-- ---- what is kept of it then
-- Of its missing sectors these were copied, and those lost.
pub record ComesWith (k role : ℕ) (copied lost : ℕ → Bool) (a : ArrayView) (n : MemberView) : Type 0 where
  pub member : MemberView
  pub at : IsMember a k member
  pub list : List Run
  pub list_is : IsListOf copied lost member list
  pub room : HasRoomFor member.superblock list
  pub comes : ComesIntoSync role list a.marks member n

-- Member k's log has no room for its list.
pub record HasFullLog (k : ℕ) (copied lost : ℕ → Bool) (a : ArrayView) : Type 0 where
  pub member : MemberView
  pub at : IsMember a k member
  pub list : List Run
  pub list_is : IsListOf copied lost member list
  pub full : HasRoomFor member.superblock list → ⊥

-- Member k's log has room for its list.
pub record HasRoomInLog (k : ℕ) (copied lost : ℕ → Bool) (a : ArrayView) : Type 0 where
  pub member : MemberView
  pub at : IsMember a k member
  pub list : List Run
  pub list_is : IsListOf copied lost member list
  pub room : HasRoomFor member.superblock list

-- ---- of chunks
abbrev pub HasFullLogChunks : ℕ → Bitmap → Bitmap → ArrayView → Type 0
HasFullLogChunks k copied orphans a = HasFullLog k (in_chunks a.chunks copied) (in_chunks a.chunks orphans) a

abbrev pub HasRoomInLogChunks : ℕ → Bitmap → Bitmap → ArrayView → Type 0
HasRoomInLogChunks k copied orphans a = HasRoomInLog k (in_chunks a.chunks copied) (in_chunks a.chunks orphans) a

-- ---- why there is no such member
-- Where memory is refused the log has room: a full log is found before any is taken.
abbrev pub RefusesEnrolledMember : ℕ → (ℕ → Bool) → (ℕ → Bool) → ArrayView → EnrolFault → Type 0
RefusesEnrolledMember k copied lost a (LogFull j) = (j ≡ k) × HasFullLog k copied lost a
RefusesEnrolledMember k copied lost a NoMemory = HasRoomInLog k copied lost a
RefusesEnrolledMember k copied lost a Halted = ⊥
RefusesEnrolledMember k copied lost a EventsFull = ⊥
RefusesEnrolledMember k copied lost a TargetFault = ⊥

-- The same where the list has to be made before it is known whether the log has room for it.
abbrev pub RefusesMadeMember : ℕ → (ℕ → Bool) → (ℕ → Bool) → ArrayView → EnrolFault → Type 0
RefusesMadeMember k copied lost a (LogFull j) = (j ≡ k) × HasFullLog k copied lost a
RefusesMadeMember k copied lost a NoMemory = ⊤
RefusesMadeMember k copied lost a Halted = ⊥
RefusesMadeMember k copied lost a EventsFull = ⊥
RefusesMadeMember k copied lost a TargetFault = ⊥

-- ---- the array with it
-- each role has a member in sync, once this is member k
abbrev pub is_full_with : ArrayView → ℕ → MemberView → Bool
is_full_with a k n = not (is_degraded (record a { members = set a.members k n }))

-- The count has risen, and each superblock but the new one is due. Its number has its role.
abbrev pub enrolled : ArrayView → ℕ → MemberView → ℕ → ArrayView
enrolled a k n role =
    record a {
      shared = joined_shared a.shared a.members n.superblock.dev_number role;
      members = set (map made_due a.members) k n;
      events_cleared = cond (is_full_with a k n) (a.shared.events + 1) a.events_cleared;
    }
