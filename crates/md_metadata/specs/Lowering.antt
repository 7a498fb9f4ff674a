-- Recovering members are to say no more that they have data which are about to change, one after another.
use Rattle.std.specs.Prelude.{◌≡◌, ℕ}
use Rattle.md_model.specs.Events.{Event}
use Rattle.md_kept_members.specs.TakingBack.{lowered_member}
use Rattle.md_kept_members.specs.View.{MemberView}
use Rattle.md_state.specs.Members.{IsMember}
use Rattle.md_state.specs.Steps.Begin.{with_offsets_lowered}
use Rattle.md_state.specs.Steps.Checkpoint.{with_member_at}
use Rattle.md_state.specs.View.{MirrorView}
use Rattle.md_metadata.specs.Going.{GoesOn, only_others}

abbrev pub IsLowering : ℕ → Event → Type 0
IsLowering sector (Event.LowerOffset k s) = s ≡ sector
IsLowering sector e = ⊥

-- Each recovering member surely has no more than what is before this sector, and its superblock is due, if it says more. In memory alone.
pub record LowersAll (sector : ℕ) (old new : MirrorView) : Type 0 where
  pub goes : GoesOn only_others only_others (IsLowering sector) old new
  pub disks : new.disks ≡ old.disks
  pub array : new.array ≡ with_offsets_lowered sector old.array

-- of member k alone
pub record LowersMember (k sector : ℕ) (old new : MirrorView) : Type 0 where
  pub goes : GoesOn only_others only_others (IsLowering sector) old new
  pub disks : new.disks ≡ old.disks
  pub array : (m : MemberView) → IsMember old.array k m → new.array ≡ with_member_at old.array k (lowered_member sector m)
