-- A run of sectors is written to the target of a salvage (this project's own).
use Rattle.std.specs.Prelude.{◌≡◌, ℕ, List}
use Rattle.md_kept_members.specs.View.{MemberView}
use Rattle.md_state.specs.DiskWrites.{IsFailed, IsWritten}
use Rattle.md_state.specs.Members.{IsMember}
use Rattle.md_state.specs.Steps.CopyData.{run_write}
use Rattle.md_state.specs.View.{MirrorView}

-- These bytes were written to the target from this sector of the array on, by one write, and no other device was used.
pub record PutsRun (target sector : ℕ) (bytes : List ℕ) (old new : MirrorView) : Type 0 where
  pub member : MemberView
  pub at : IsMember old.array target member
  pub array : new.array ≡ old.array
  pub disks : IsWritten target (run_write member sector bytes) old.disks new.disks

-- The write of the run failed.
pub record FailsToPut (target sector : ℕ) (bytes : List ℕ) (old new : MirrorView) : Type 0 where
  pub member : MemberView
  pub at : IsMember old.array target member
  pub array : new.array ≡ old.array
  pub disks : IsFailed target (run_write member sector bytes) old.disks new.disks
