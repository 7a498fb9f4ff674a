-- Facts of the members that are kept, of one or of a list.
use Rattle.std.specs.Prelude.{◌≡◌, ◌≢◌, ℕ, true, false, ◌||◌, List, slice_get, Some}
use Rattle.md_members.specs.Members.{IsAccepted}
use Rattle.md_assembly.specs.States.{is_in_sync, is_recorded}
use Rattle.md_kept_members.specs.View.{MemberView}

-- the member is in sync, and the bitmap that was read on it is not accepted: every chunk counts as marked
pub record NeedsMarks (m : MemberView) : Type 0 where
  pub in_sync : is_in_sync m.state ≡ true
  pub refused : IsAccepted m.superblock m.header → ⊥

-- a member's superblock has to be stored, if it is kept up to date
abbrev pub made_due : MemberView → MemberView
made_due m = record m { due = is_recorded m.state || m.due }

-- a member's superblock is stored as it is kept
abbrev pub recorded_member : MemberView → MemberView
recorded_member m = record m { due = false; stored_offset = m.superblock.recovery_offset }

-- a member other than k is in sync
pub record HasOtherInSync (members : List MemberView) (k : ℕ) : Type 0 where
  pub other : ℕ
  pub member : MemberView
  pub listed : slice_get members other ≡ Some member
  pub in_sync : is_in_sync member.state ≡ true
  pub apart : other ≢ k

-- no member but k is in sync
abbrev pub IsLastInSync : List MemberView → ℕ → Type 0
IsLastInSync members k = (j : ℕ) (m : MemberView) → slice_get members j ≡ Some m → is_in_sync m.state ≡ true → j ≡ k
