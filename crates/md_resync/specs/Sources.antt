-- Which member may give a sector.
use Rattle.std.specs.Prelude.{◌≡◌, ℕ, ◌<◌, ◌≤◌, true, cond, nat_le, Option, Some, None}
use Rattle.md_kept_members.specs.View.{MemberView}
use Rattle.md_assembly.specs.States.{is_in_sync_as}
use Rattle.md_state.specs.Steps.CopyData.{Lists}
use Rattle.md_state.specs.View.{ArrayView}
use Rattle.md_state.specs.Members.{IsMember}

-- the member is in sync in this role, and does not list the sector
pub record IsUnlistedSource (role sector : ℕ) (m : MemberView) : Type 0 where
  pub in_sync : is_in_sync_as role m.state ≡ true
  pub unlisted : Lists m sector → ⊥

-- no member is
abbrev pub NoneFree : ℕ → ArrayView → Type 0
NoneFree sector a = (k role : ℕ) (m : MemberView) → IsMember a k m → IsUnlistedSource role sector m → ⊥

-- the lower of two roles, the earlier of two that are the same, each with its member
abbrev pub lower_of : Option (ℕ × ℕ) → Option ℕ → ℕ → Option (ℕ × ℕ)
lower_of best None k = best
lower_of None (Some role) k = Some (role, k)
lower_of (Some best) (Some role) k = cond (nat_le best.0 role) (Some best) (Some (role, k))

-- the lowest role in which a member before k may give the sector, and that member
pub record IsBest (k sector role from : ℕ) (a : ArrayView) : Type 0 where
  pub before : from < k
  pub member : MemberView
  pub at : IsMember a from member
  pub free : IsUnlistedSource role sector member
  pub lowest : (j other : ℕ) (m : MemberView) → j < k → IsMember a j m → IsUnlistedSource other sector m → role ≤ other

abbrev pub BestBelow : ℕ → ℕ → ArrayView → Option (ℕ × ℕ) → Type 0
BestBelow k sector a None = (j other : ℕ) (m : MemberView) → j < k → IsMember a j m → IsUnlistedSource other sector m → ⊥
BestBelow k sector a (Some best) = IsBest k sector best.0 best.1 a
