-- A member's superblock is stored.
use Rattle.std.specs.Prelude.{◌≡◌, ◌⊎◌, ℕ, true, false}
use Rattle.md_super.specs.Merge.{merged}
use Rattle.md_members.specs.DeviceWrites.Writes.{Write}
use Rattle.md_kept_members.specs.Members.{recorded_member}
use Rattle.md_kept_members.specs.View.{MemberView}
use Rattle.md_kept_members.specs.OnDevices.Superblocks.{IsReadable, write_of}
use Rattle.md_assembly.specs.States.{is_recorded}
use Rattle.md_faults.specs.declared.step_fault.StoreFault.{StoreFault}
use Rattle.md_faults.specs.declared.step_fault.StoreFault.TheVariants.{Halted, NotActive, MemberFailed}
use Rattle.md_state.specs.Members.{IsMember}
use Rattle.md_state.specs.Steps.Checkpoint.{with_member_at}
use Rattle.md_state.specs.View.{ArrayView, MirrorView}
use Rattle.md_state.specs.OutOfSync.{IsInactive}
use Rattle.md_state.specs.DiskWrites.{IsWritten}
use Rattle.md_state.specs.Trying.{Refuses, RefusesHalted, FailsWriting, HaltsWriting}

-- the array's fields, and the member's own
abbrev pub super_write : ArrayView → MemberView → Write
super_write a m = write_of a.shared m

-- member k may be recorded
pub record MayRecord (k : ℕ) (a : ArrayView) (m : MemberView) : Type 0 where
  pub running : a.halted ≡ false
  pub at : IsMember a k m
  pub active : is_recorded m.state ≡ true
  pub readable : IsReadable (merged a.shared m.superblock)  -- no condition: so it is of every superblock that is kept

pub record Records (k : ℕ) (old new : MirrorView) : Type 0 where
  pub member : MemberView
  pub may : MayRecord k old.array member
  pub disks : IsWritten k (super_write old.array member) old.disks new.disks
  pub array : new.array ≡ with_member_at old.array k (recorded_member member)

pub record FailsToRecord (k : ℕ) (old new : MirrorView) : Type 0 where
  pub member : MemberView
  pub may : MayRecord k old.array member
  pub fails : FailsWriting k (super_write old.array member) old new

pub record HaltsRecording (k : ℕ) (old new : MirrorView) : Type 0 where
  pub member : MemberView
  pub may : MayRecord k old.array member
  pub halts : HaltsWriting k (super_write old.array member) old new

abbrev pub RefusesRecord : ℕ → MirrorView → MirrorView → StoreFault → Type 0
RefusesRecord k old new Halted = RefusesHalted old new ⊎ HaltsRecording k old new
RefusesRecord k old new NotActive = Refuses old new (IsInactive k old.array)
RefusesRecord k old new (MemberFailed j) = (j ≡ k) × FailsToRecord k old new
