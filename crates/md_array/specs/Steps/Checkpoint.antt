-- A recovering member records how far it is rebuilt.
use Rattle.std.specs.Prelude.{◌≡◌, ⊤, ℕ, true, false, Result, MatchResult}
use Rattle.md_assembly.specs.States.{is_recovering}
use Rattle.md_bitmap.specs.Marks.{Bitmap}
use Rattle.md_faults.specs.declared.enrol_fault.TargetFault.{TargetFault as TargetFaults}
use Rattle.md_faults.specs.declared.enrol_fault.TargetFault.TheVariants.{Halted, TargetFault}
use Rattle.md_kept_members.specs.TakingBack.{with_offsets}
use Rattle.md_kept_members.specs.Members.{recorded_member}
use Rattle.md_kept_members.specs.View.{MemberView}
use Rattle.md_model.specs.Content.{Content}
use Rattle.md_model.specs.Events.{Event}
use Rattle.md_kept_members.specs.OnDevices.Superblocks.{IsReadable}
use Rattle.md_state.specs.Steps.Checkpoint.{IsFirstEnd, checked, with_member_at}
use Rattle.md_state.specs.DiskWrites.{IsFailed, IsWritten}
use Rattle.md_state.specs.Steps.MakeClean.{IsIdle}
use Rattle.md_state.specs.Members.{IsMember}
use Rattle.md_state.specs.Trying.{RefusesHalted}
use Rattle.md_state.specs.View.{MirrorView}
use Rattle.md_super.specs.Merge.{merged}
use Rattle.md_array.specs.Steps.Admit.{FailsAsTarget}
use Rattle.md_array.specs.Steps.Enrol.{HoldsContent, HoldsCopied}
use Rattle.md_array.specs.Events.{Happens, listed_on}
use Rattle.md_array.specs.Steps.NoteResynced.{AreNoted}
use Rattle.md_array.specs.Steps.Record.{super_write}
use Rattle.md_array.specs.Worlds.{AreHonest}

-- Nothing is in flight, the array is resynced, each member in sync has the marks stored, and the member is recovering. These chunks were
-- copied.
pub record MayCheckpoint (k : ℕ) (copied : Bitmap) (v : MirrorView) : Type 0 where
  pub member : MemberView
  pub at : IsMember v.array k member
  pub recovering : is_recovering member.state ≡ true
  pub idle : IsIdle v.array
  pub resynced : v.array.resynced ≡ true
  pub noted : AreNoted v.array
  pub copied_chunks : copied.chunks ≡ v.array.marks.chunks
  pub holds : AreHonest v.disks → HoldsCopied v.disks v.array k copied

-- A member's superblock was written with the next sure offset.
pub record Checkpoints (k : ℕ) (copied : Bitmap) (old new : MirrorView) : Type 0 where
  pub may : MayCheckpoint k copied old
  pub sure : ℕ
  pub first : IsFirstEnd old.array may.member copied sure
  pub readable : IsReadable (merged old.array.shared (checked sure may.member).superblock)  -- no condition: so it is of every superblock that is kept
  pub array : new.array ≡ with_member_at old.array k (recorded_member (checked sure may.member))
  pub disks : IsWritten k (super_write old.array (checked sure may.member)) old.disks new.disks

-- The write of a member's superblock with the next sure offset failed, and in memory all is as before.
pub record FailsToCheckpoint (k : ℕ) (copied : Bitmap) (old new : MirrorView) : Type 0 where
  pub member : MemberView
  pub at : IsMember old.array k member
  pub sure : ℕ
  pub first : IsFirstEnd old.array member copied sure
  pub running : old.array.halted ≡ false
  pub array : new.array ≡ old.array
  pub readable : IsReadable (merged old.array.shared (checked sure member).superblock)
  pub disks : IsFailed k (super_write old.array (checked sure member)) old.disks new.disks

abbrev pub RefusesCheckpoint : ℕ → Bitmap → MirrorView → MirrorView → TargetFaults → Type 0
RefusesCheckpoint k copied old new Halted = RefusesHalted old new
RefusesCheckpoint k copied old new TargetFault = FailsToCheckpoint k copied old new

-- In memory alone the member has these offsets from then on.
pub record MovesOffsets (k offset sure : ℕ) (old new : MirrorView) : Type 0 where
  pub member : MemberView
  pub at : IsMember old.array k member
  pub moved : new ≡ record old { array = with_member_at old.array k (with_offsets offset sure member) }

-- ---- the event
abbrev pub checkpoint_event : {k : ℕ} {copied : Bitmap} {old new : MirrorView} → Checkpoints k copied old new → Event
checkpoint_event {k} {copied} {old} {new} r = Event.Checkpoint k r.sure (listed_on new k)

-- A `checkpoint` was done by this event.
pub record DidCheckpoint (e : Event) (old new : MirrorView) : Type 0 where
  pub index : ℕ
  pub copied : Bitmap
  pub checkpoints : Checkpoints index copied old new
  pub event : e ≡ checkpoint_event checkpoints

abbrev pub IfCheckpointFailed : Type 0 → TargetFaults → Type 0
IfCheckpointFailed P TargetFault = P
IfCheckpointFailed P Halted = ⊤

-- Of a content that the members in sync hold: what was copied is that.
abbrev pub CheckpointHappens : ℕ → MirrorView → MirrorView → {T : Type 0} → Result T TargetFaults → Type 0
CheckpointHappens k old new result =
    MatchResult result
    (λ _. (sure : ℕ) × ((content : Content) → HoldsContent old.disks old.array content → Happens old (Event.Checkpoint k sure (listed_on new k)) new))
    (IfCheckpointFailed (FailsAsTarget k old new))
