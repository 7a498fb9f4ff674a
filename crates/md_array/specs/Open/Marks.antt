-- Marks are stored on members: which bytes are written, and what stands on the devices after it.
use Rattle.std.specs.Prelude.{◌≡◌, ◌⊎◌, ℕ, ◌*◌, ◌<◌, true, List, ◌++◌, ◌∷◌, length, slice_get, Some}
use Rattle.md_device.specs.Failing.{SomeNewFault, failed_write}
use Rattle.md_device.specs.Splice.{SameOutside}
use Rattle.md_bitmap.specs.declared.header.BitmapHeader.{BitmapHeader}
use Rattle.md_members.specs.Areas.{bitmap_sectors}
use Rattle.md_members.specs.Reading.{BitmapStartsAt}
use Rattle.md_array.specs.declared.fault.OpenFault.{OpenFault}
use Rattle.md_array.specs.declared.fault.OpenFault.TheVariants.{MetadataFault}
use Rattle.md_members.specs.DeviceWrites.Bitmaps.{bitmap_writes}
use Rattle.md_members.specs.DeviceWrites.Writes.{Write, IsAnyIn, IsCutShort, after}
use Rattle.md_kept_members.specs.View.{MemberView}
use Rattle.md_kept_members.specs.Members.{NeedsMarks}
use Rattle.md_state.specs.Members.{IsMember}
use Rattle.md_state.specs.View.{Disk, ArrayView}
use Rattle.md_state.specs.DeviceChanges.{AreSame, EachPair, IsLeftAlone, LeavesOn}
use Rattle.md_state.specs.Headers.{IsHeaderFor}

-- the writes by which a member's marks are stored
pub record AreMarkWrites (a : ArrayView) (m : MemberView) (start : ℕ) (writes : List Write) : Type 0 where
  pub at : BitmapStartsAt m.superblock start
  pub header : BitmapHeader
  pub header_is : IsHeaderFor a m header
  pub writes_are : writes ≡ bitmap_writes start header m.stored (bitmap_sectors m.stored.chunks)

-- at most the bitmap's area is written
abbrev pub IsSameOutsideBitmap : MemberView → ℕ → Disk → Disk → Type 0
IsSameOutsideBitmap m start old new = SameOutside (512 * start) (512 * bitmap_sectors m.stored.chunks) old.content new.content

-- A device before and after the marks were stored on it. At each moment a crash leaves the first of the writes done, and the next
-- one cut short.
pub record StoresMarksOn (a : ArrayView) (m : MemberView) (old new : Disk) : Type 0 where
  pub start : ℕ
  pub writes : List Write
  pub are : AreMarkWrites a m start writes
  pub done : old.honest ≡ true → new.content ≡ after old.content writes
  pub within : old.honest ≡ true → LeavesOn (IsCutShort old.content writes) old new
  pub outside : IsSameOutsideBitmap m start old new

-- A device before and after storing them failed: the first writes were made, and the next one failed. Within it any bytes may stand
-- in its range, and so at its end.
pub record FailsToStore (a : ArrayView) (m : MemberView) (old new : Disk) : Type 0 where
  pub start : ℕ
  pub writes : List Write
  pub are : AreMarkWrites a m start writes
  pub failed : old.honest ≡ true → old.failures < new.failures
  pub made : List Write
  pub tried : Write
  pub rest : List Write
  pub order : writes ≡ made ++ tried ∷ rest
  pub there : SomeNewFault old.faults new.faults (λ f. f ≡ failed_write tried.sector (length tried.bytes))
  pub stopped : old.honest ≡ true → IsAnyIn tried (after old.content made) new.content
  pub within : old.honest ≡ true → LeavesOn (λ left. IsCutShort old.content made left ⊎ IsAnyIn tried (after old.content made) left) old new
  pub outside : IsSameOutsideBitmap m start old new

-- where marks are to be stored on a member they were, and else its device is left alone
abbrev pub IsMarkedBy : ArrayView → MemberView → Disk → Disk → Type 0
IsMarkedBy a m d e = (NeedsMarks m → StoresMarksOn a m d e) × ((NeedsMarks m → ⊥) → IsLeftAlone d e)

abbrev pub AreMarksOnDisk : ArrayView → ℕ → Disk → Disk → Type 0
AreMarksOnDisk a k d e = (m : MemberView) → IsMember a k m → IsMarkedBy a m d e

-- Marks were stored on each member where they are to be, and each other device is left alone.
pub record AreMarksOnDisks (before after : List Disk) (a : ArrayView) : Type 0 where
  pub same : AreSame before after
  pub each : EachPair (AreMarksOnDisk a) before after

-- storing the marks on member k failed: they are stored on the members before it, and the devices after it are left alone
pub record EndsAtMember (a : ArrayView) (before after : List Disk) (k : ℕ) : Type 0 where
  pub same : AreSame before after
  pub member : MemberView
  pub at : IsMember a k member
  pub needs : NeedsMarks member
  pub failed : (d e : Disk) → slice_get before k ≡ Some d → slice_get after k ≡ Some e → FailsToStore a member d e
  pub earlier : EachPair (λ j d e. j < k → AreMarksOnDisk a j d e) before after
  pub later : EachPair (λ j d e. k < j → IsLeftAlone d e) before after

-- why storing the marks ends
abbrev pub RefusesStoringMarks : ArrayView → List Disk → List Disk → OpenFault → Type 0
RefusesStoringMarks a before after (MetadataFault k) = EndsAtMember a before after k
RefusesStoringMarks a before after _ = ⊥
