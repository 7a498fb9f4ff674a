-- The superblock of a member that is rebuilt is stored, whose failure leaves the member as it was (this project's own).
use Rattle.std.specs.Prelude.{◌≡◌, ℕ, ⊤, true, Result, MatchResult}
use Rattle.md_faults.specs.declared.enrol_fault.TargetFault.{TargetFault as TargetFaults}
use Rattle.md_faults.specs.declared.enrol_fault.TargetFault.TheVariants.{Halted, TargetFault}
use Rattle.md_kept_members.specs.View.{MemberView}
use Rattle.md_model.specs.Events.{Event}
use Rattle.md_state.specs.DiskWrites.{AtDevice, IsFailed}
use Rattle.md_state.specs.Members.{IsMember}
use Rattle.md_state.specs.Missing.{is_rebuilt}
use Rattle.md_state.specs.Trying.{RefusesHalted}
use Rattle.md_state.specs.View.{MirrorView}
use Rattle.md_array.specs.Events.{Happens, IsOldNewOrNone}
use Rattle.md_array.specs.Steps.Record.{MayRecord, super_write}

-- The write failed. In memory all is as it was, so that the member's record is due still. A crash within the write leaves any bytes in
-- its range (`disks.within`).
pub record LeavesUnrecorded (k : ℕ) (old new : MirrorView) : Type 0 where
  pub member : MemberView
  pub may : MayRecord k old.array member
  pub array : new.array ≡ old.array
  pub disks : IsFailed k (super_write old.array member) old.disks new.disks

abbrev pub RefusesTarget : ℕ → MirrorView → MirrorView → TargetFaults → Type 0
RefusesTarget k old new Halted = RefusesHalted old new
RefusesTarget k old new TargetFault = LeavesUnrecorded k old new

-- The write of the superblock of a member that is rebuilt failed.
pub record FailsOnTarget (k : ℕ) (old new : MirrorView) : Type 0 where
  pub leaves : LeavesUnrecorded k old new
  pub rebuilt : is_rebuilt leaves.member.state ≡ true

-- The event of the model: the superblock is stored, or its write failed and left the old one, the new one or none.
abbrev pub TargetFails : ℕ → MirrorView → MirrorView → Type 0
TargetFails k old new =
    (m : MemberView) → IsMember old.array k m → AtDevice k old.disks new.disks (IsOldNewOrNone (super_write old.array m).bytes)
    → Happens old (Event.RecordTargetFails k) new

abbrev pub IfTargetFailed : Type 0 → TargetFaults → Type 0
IfTargetFailed P TargetFault = P
IfTargetFailed P Halted = ⊤

abbrev pub TargetHappens : ℕ → MirrorView → MirrorView → {T : Type 0} → Result T TargetFaults → Type 0
TargetHappens k old new result = MatchResult result (λ _. Happens old (Event.Record k) new) (IfTargetFailed (TargetFails k old new))
