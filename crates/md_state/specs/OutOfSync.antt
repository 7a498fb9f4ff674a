-- Members that a step of a running mirror refuses.
use Rattle.std.specs.Prelude.{◌≡◌, ℕ, false}
use Rattle.md_assembly.specs.States.{is_in_sync, is_recorded}
use Rattle.md_kept_members.specs.View.{MemberView}
use Rattle.md_state.specs.Members.{IsMember}
use Rattle.md_state.specs.View.{ArrayView}

-- Member k is not in sync.
pub record IsNotInSync (k : ℕ) (a : ArrayView) : Type 0 where
  pub running : a.halted ≡ false
  pub member : MemberView
  pub at : IsMember a k member
  pub out : is_in_sync member.state ≡ false

-- Member k is stale or has failed.
pub record IsInactive (k : ℕ) (a : ArrayView) : Type 0 where
  pub running : a.halted ≡ false
  pub member : MemberView
  pub at : IsMember a k member
  pub inactive : is_recorded member.state ≡ false
