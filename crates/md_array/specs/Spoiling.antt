-- A write of a superblock by which a member that is rebuilt tells of it failed, and left any (this project's own).
use Rattle.std.specs.Prelude.{◌≡◌, ℕ, true, false, length}
use Rattle.md_kept_members.specs.View.{MemberView}
use Rattle.md_state.specs.Members.{IsMember}
use Rattle.md_state.specs.Missing.{is_rebuilt}
use Rattle.md_state.specs.View.{MirrorView}
use Rattle.md_members.specs.DeviceWrites.Writes.{Write}
use Rattle.md_array.specs.Events.{HasWriteFailed}

-- The write was that of `admit`, `checkpoint` or `enrol`, and is as long as a superblock. In memory all is as it was: the member is what it
-- was, and its superblock may be stored anew.
pub record SpoilsTarget (k : ℕ) (old new : MirrorView) : Type 0 where
  pub member : MemberView
  pub at : IsMember old.array k member
  pub rebuilt : is_rebuilt member.state ≡ true
  pub running : old.array.halted ≡ false
  pub array : new.array ≡ old.array
  pub write : Write
  pub sector : write.sector ≡ 8
  pub size : length write.bytes ≡ 4096
  pub disks : HasWriteFailed k write old.disks new.disks
