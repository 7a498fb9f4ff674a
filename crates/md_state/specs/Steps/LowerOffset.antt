-- Data are about to change of which a recovering member's superblock says that it has them (recovery_offset of md_p.h, up to which all is
-- recovered; this project's own step: a kernel writes to a recovering member too).
use Rattle.std.specs.Prelude.{◌≡◌, ℕ, true}
use Rattle.md_assembly.specs.States.{is_recovering}
use Rattle.md_kept_members.specs.TakingBack.{lowered_member}
use Rattle.md_kept_members.specs.View.{MemberView}
use Rattle.md_state.specs.Members.{IsMember}
use Rattle.md_state.specs.Steps.Checkpoint.{with_member_at}
use Rattle.md_state.specs.View.{ArrayView}

-- Member k, which is recovering, surely has no more than what is before the sector, and its superblock is due, if it says more.
pub record Lowers (k sector : ℕ) (old new : ArrayView) : Type 0 where
  pub member : MemberView
  pub at : IsMember old k member
  pub recovering : is_recovering member.state ≡ true
  pub array : new ≡ with_member_at old k (lowered_member sector member)
