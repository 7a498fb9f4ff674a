-- When the members in sync of a mirror agree, over its life.
use Rattle.std.specs.Prelude.{◌≡◌, ℕ, ◌+◌, ◌<◌, true, false, List}
use Rattle.md_kept_members.specs.View.{MemberView}
use Rattle.md_model.specs.Devices.{AgreeAt, Super}
use Rattle.md_model.specs.Events.{Event}
use Rattle.md_model.specs.Runs.{History}
use Rattle.md_model.specs.Sectors.{Geometry}
use Rattle.md_model.specs.Worlds.{IsInSync, IsQuiet}
use Rattle.md_state.specs.View.{Disk, MirrorView}
use Rattle.md_array.specs.Steps.NoteResynced.{AllAgreeAt, IsHonestMember, sector_of}
use Rattle.md_array.specs.Worlds.{is_listed}
use Rattle.md_laws.specs.Runs.{MirrorRun, Moment}
use Rattle.md_laws.specs.CallCrashes.{AtMoments}
use Rattle.md_resync.specs.Resyncing.{Resyncs}

-- Once the array is resynced, any two members in sync hold the same in each sector that no request in flight touches, and that the device of
-- neither lists.
abbrev pub AgreesAtRest : Geometry → Super → History → Type 0
AgreesAtRest g opened h =
    h.now.resynced ≡ true → (j k s : ℕ) → IsInSync h.now j → IsInSync h.now k → IsQuiet h.now s → AgreeAt (h.now.stored j) (h.now.stored k) s

-- the device of a member lists no such sector of the array
abbrev pub IsUnlistedOn : MemberView → Disk → ℕ → Type 0
IsUnlistedOn m d s = is_listed m.superblock d.content (m.superblock.data_offset + s) ≡ false

-- Any two members in sync hold the same in this sector, unless the device of one of them lists it.
abbrev pub AllAgreeOnDevices : MirrorView → ℕ → Type 0
AllAgreeOnDevices v s =
    (j k : ℕ) (m n : MemberView) (d e : Disk) → IsHonestMember v j m d → IsHonestMember v k n e
    → IsUnlistedOn m d s → IsUnlistedOn n e s → sector_of m d s ≡ sector_of n e s

-- Any two members in sync hold the same in each sector of the array that the device of neither lists.
abbrev pub IsAgreed : MirrorView → Type 0
IsAgreed v = (s : ℕ) → s < v.array.chunks.size → AllAgreeOnDevices v s

-- A resync that is done is a run from this moment on. Then the members in sync agree in each sector of the array that neither lists: on its
-- device, and so in memory too, where no less is listed.
pub record LeavesAgreed (t : Moment) (new : MirrorView) : Type 0 where
  pub events : List Event
  pub last : Moment
  pub run : MirrorRun t events last
  pub there : last.mirror ≡ new
  pub agree_on_devices : IsAgreed new
  pub agree : (s : ℕ) → s < new.array.chunks.size → AllAgreeAt new s

-- Each resync that is done, at any moment of a life, leaves the members in sync agreed.
abbrev pub ResyncsAgree : Type 0
ResyncsAgree = AtMoments (λ t. ((new : MirrorView) → Resyncs t.mirror new → LeavesAgreed t new))
