-- What steps have in common: a refusal, and a write to a member that fails.
use Rattle.std.specs.Prelude.{◌≡◌, ℕ, true}
use Rattle.md_members.specs.DeviceWrites.Writes.{Write}
use Rattle.md_state.specs.View.{MirrorView}
use Rattle.md_state.specs.DiskWrites.{IsFailed}
use Rattle.md_state.specs.Steps.Rise.{Fails, Halts}

-- A call is refused for this reason, and all is as before.
pub record Refuses (old new : MirrorView) (Reason : Type 0) : Type 0 where
  pub unchanged : new ≡ old
  pub reason : Reason

abbrev pub RefusesHalted : MirrorView → MirrorView → Type 0
RefusesHalted old new = Refuses old new (old.array.halted ≡ true)

-- the write fails on member k, which is faulty after it
pub record FailsWriting (k : ℕ) (w : Write) (old new : MirrorView) : Type 0 where
  pub disks : IsFailed k w old.disks new.disks
  pub array : Fails k old.array new.array

-- the write fails on member k, which can't be made faulty, so that the mirror is halted
pub record HaltsWriting (k : ℕ) (w : Write) (old new : MirrorView) : Type 0 where
  pub disks : IsFailed k w old.disks new.disks
  pub array : Halts k old.array new.array
