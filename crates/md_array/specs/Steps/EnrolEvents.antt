-- An enrolment as events: the member is prepared, and then it comes into sync by one write, or is spoiled where that fails (this project's
-- own).
use Rattle.std.specs.Prelude.{◌≡◌, ℕ, ◌+◌, ◌*◌, ◌/◌, ◌<◌, Bool, false, cond, List, [], ◌++◌, set, slice_get, Option, Some, None}
use Rattle.md_device.specs.Splice.{part}
use Rattle.md_kept_members.specs.View.{MemberView}
use Rattle.md_members.specs.Areas.{bitmap_sectors}
use Rattle.md_model.specs.Content.{Content}
use Rattle.md_model.specs.Events.{Event}
use Rattle.md_kept_members.specs.OnDevices.Storing.{log_writes}
use Rattle.md_state.specs.Members.{IsMember}
use Rattle.md_state.specs.Missing.{is_missing}
use Rattle.md_state.specs.View.{Disk, MirrorView}
use Rattle.md_members.specs.DeviceWrites.Bitmaps.{bitmap_writes}
use Rattle.md_members.specs.DeviceWrites.Writes.{Write, after}
use Rattle.md_array.specs.Steps.Enrol.{Enrols, FailsToEnrol, HoldsContent}
use Rattle.md_array.specs.Events.{IsChangedAlone, IsSameBesideMarks}
use Rattle.md_array.specs.Steps.Fill.{MayRebuild}
use Rattle.md_array.specs.Worlds.{lists_of}

-- The bitmap and the log of member k are stored, or a write of theirs failed or was cut short. Its superblock and its data are as they
-- were, and so is all that is kept of it.
pub record Prepares (k : ℕ) (old new : MirrorView) : Type 0 where
  pub may : MayRebuild k old.array
  pub array : new.array ≡ old.array
  pub disks : IsChangedAlone k (IsSameBesideMarks may.member) old.disks new.disks

-- ---- the mirror in between, which no caller sees
-- a device after these writes
abbrev pub with_writes : List Disk → ℕ → List Write → Option Disk → List Disk
with_writes disks k writes None = disks
with_writes disks k writes (Some d) = set disks k (record d { content = after d.content writes })

-- the writes of an enrolment but the last, which is that of the superblock
abbrev pub first_writes : {k : ℕ} {copied lost : ℕ → Bool} {old new : MirrorView} → Enrols k copied lost old new → List Write
first_writes r = bitmap_writes r.are.start r.are.header r.member.stored (bitmap_sectors r.member.stored.chunks) ++ log_writes r.member.superblock r.member.bad

-- The mirror once the writes of an enrolment before its last are done. Nothing is changed in memory.
abbrev pub prepared : {k : ℕ} {copied lost : ℕ → Bool} {old new : MirrorView} → Enrols k copied lost old new → MirrorView
prepared {k} {copied} {lost} {old} {new} r = record old { disks = with_writes old.disks k (first_writes r) (slice_get old.disks k) }

-- ---- the event
abbrev pub enrol_event : {k : ℕ} {copied lost : ℕ → Bool} {old new : MirrorView} → Enrols k copied lost old new → Event
enrol_event {k} {copied} {lost} {old} {new} r = Event.Enrol k r.role (lists_of old.array r.member)

-- By this event the member came into sync.
pub record DidEnrol (e : Event) (mid new : MirrorView) : Type 0 where
  pub index : ℕ
  pub copied : ℕ → Bool
  pub lost : ℕ → Bool
  pub old : MirrorView
  pub enrols : Enrols index copied lost old new
  pub prepared : mid ≡ prepared enrols
  pub event : e ≡ enrol_event enrols

-- In chunks that it does not lack a member that comes into sync holds the content, in each sector that it does not list then. So do the
-- members in sync throughout.
pub record IsHeldBy (k : ℕ) (listed : ℕ → Bool) (content : Content) (v : MirrorView) : Type 0 where
  pub in_sync : HoldsContent v.disks v.array content
  pub told : (d : Disk) (m : MemberView) → slice_get v.disks k ≡ Some d → IsMember v.array k m
      → (s : ℕ) → s < v.array.chunks.size → is_missing v.array m (s / v.array.chunks.sectors) ≡ false → listed s ≡ false
      → part d.content (512 * (m.superblock.data_offset + s)) 512 ≡ content s

-- ---- an enrolment that fails by its last write
-- The write that failed was that of the superblock: those before it are done.
pub record FailsAtSuper {k : ℕ} {copied lost : ℕ → Bool} {old new : MirrorView} (f : FailsToEnrol k copied lost old new) : Type 0 where
  pub disk : Disk
  pub is : slice_get old.disks k ≡ Some disk
  pub left : Disk
  pub left_is : slice_get new.disks k ≡ Some left
  pub last : (f.disks.change disk left is left_is).0.rest ≡ []

-- The device before that write, which ended as this one. Of a device that isn't honest, any may be taken.
abbrev pub before_last : List Write → Disk → Disk → Disk
before_last writes d e = record d { content = cond d.honest (after d.content writes) e.content }

abbrev pub with_first : List Disk → ℕ → List Write → Option Disk → Option Disk → List Disk
with_first disks k writes (Some d) (Some e) = set disks k (before_last writes d e)
with_first disks k writes _ _ = disks

abbrev pub writes_before : {k : ℕ} {copied lost : ℕ → Bool} {old new : MirrorView} → FailsToEnrol k copied lost old new → List Write
writes_before f = bitmap_writes f.are.start f.are.header f.member.stored (bitmap_sectors f.member.stored.chunks) ++ log_writes f.member.superblock f.member.bad

-- The mirror in between: the member is prepared. From there it is spoiled (`SpoilsTarget`).
abbrev pub prepared_only : {k : ℕ} {copied lost : ℕ → Bool} {old new : MirrorView} → FailsToEnrol k copied lost old new → MirrorView
prepared_only {k} {copied} {lost} {old} {new} f =
    record old { disks = with_first old.disks k (writes_before f) (slice_get old.disks k) (slice_get new.disks k) }
