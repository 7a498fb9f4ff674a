-- A sector of a member's bitmap is stored, as the marks in memory are.
use Rattle.std.specs.Prelude.{◌≡◌, ◌<◌, ◌⊎◌, ℕ, false, set, true}
use Rattle.md_bitmap.specs.declared.header.BitmapHeader.{BitmapHeader}
use Rattle.md_bitmap.specs.Marks.{Bitmap}
use Rattle.md_members.specs.Areas.{bitmap_sectors}
use Rattle.md_members.specs.Reading.{BitmapStartsAt}
use Rattle.md_members.specs.DeviceWrites.Bitmaps.{bitmap_write}
use Rattle.md_members.specs.DeviceWrites.Writes.{Write}
use Rattle.md_assembly.specs.States.{is_in_sync}
use Rattle.md_kept_members.specs.View.{MemberView}
use Rattle.md_kept_members.specs.StoredMarks.{HasStored}
use Rattle.md_faults.specs.declared.step_fault.StoreFault.{StoreFault}
use Rattle.md_faults.specs.declared.step_fault.StoreFault.TheVariants.{Halted, NotActive, MemberFailed}
use Rattle.md_state.specs.View.{ArrayView, MirrorView}
use Rattle.md_state.specs.Members.{IsInSync, IsMember}
use Rattle.md_state.specs.Headers.{IsHeaderFor}
use Rattle.md_state.specs.DiskWrites.{IsWritten}
use Rattle.md_state.specs.Trying.{Refuses, RefusesHalted, FailsWriting, HaltsWriting}
use Rattle.md_state.specs.OutOfSync.{IsNotInSync}

-- The write of a sector of a member's bitmap, the header's among them.
pub record IsMarkWrite (a : ArrayView) (m : MemberView) (block : ℕ) (w : Write) : Type 0 where
  pub start : ℕ
  pub starts : BitmapStartsAt m.superblock start
  pub header : BitmapHeader
  pub header_is : IsHeaderFor a m header
  pub is : w ≡ bitmap_write start header a.marks block

-- Of member k it is kept that a sector of its bitmap is stored.
pub record HasStoredOf (k block : ℕ) (m : MemberView) (old new : ArrayView) : Type 0 where
  pub stored : Bitmap
  pub has_stored : HasStored old.marks m.stored block stored
  pub array : new ≡ record old { members = set old.members k (record m { stored = stored }) }

-- member k's marks may be stored by this write, of a sector that the bitmap has
pub record MayStoreMarks (k block : ℕ) (a : ArrayView) (m : MemberView) (w : Write) : Type 0 where
  pub inside : block < bitmap_sectors a.marks.chunks
  pub running : a.halted ≡ false
  pub in_sync : IsInSync a k m
  pub write : IsMarkWrite a m block w

pub record StoresMarkSector (k block : ℕ) (old new : MirrorView) : Type 0 where
  pub member : MemberView
  pub write : Write
  pub may : MayStoreMarks k block old.array member write
  pub disks : IsWritten k write old.disks new.disks
  pub stored : Bitmap
  pub has_stored : HasStored old.array.marks member.stored block stored
  pub array : new.array ≡ record old.array { members = set old.array.members k (record member { stored = stored }) }

pub record FailsToStoreMarks (k block : ℕ) (old new : MirrorView) : Type 0 where
  pub member : MemberView
  pub write : Write
  pub may : MayStoreMarks k block old.array member write
  pub fails : FailsWriting k write old new

pub record HaltsStoringMarks (k block : ℕ) (old new : MirrorView) : Type 0 where
  pub member : MemberView
  pub write : Write
  pub may : MayStoreMarks k block old.array member write
  pub halts : HaltsWriting k write old new

abbrev pub RefusesMarkSector : ℕ → ℕ → MirrorView → MirrorView → StoreFault → Type 0
RefusesMarkSector k block old new Halted = RefusesHalted old new ⊎ HaltsStoringMarks k block old new
RefusesMarkSector k block old new NotActive = Refuses old new (IsNotInSync k old.array)
RefusesMarkSector k block old new (MemberFailed j) = (j ≡ k) × FailsToStoreMarks k block old new

-- the mirror runs, and member k is in sync
pub record IsServing (k : ℕ) (a : ArrayView) : Type 0 where
  pub running : a.halted ≡ false
  pub in_sync : (m : MemberView) → IsMember a k m → is_in_sync m.state ≡ true

abbrev pub RefusesOutOfSync : ℕ → ArrayView → StoreFault → Type 0
RefusesOutOfSync k a Halted = a.halted ≡ true
RefusesOutOfSync k a NotActive = IsNotInSync k a
RefusesOutOfSync k a (MemberFailed j) = ⊥
