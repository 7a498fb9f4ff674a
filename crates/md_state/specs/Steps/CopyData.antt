-- Sectors are copied from a member in sync to another, as a resync does (sync_request and sync_request_write of raid1.c in the
-- kernel's md driver; the order of sources, and that marks are stored first, are this project's own).
use Rattle.std.specs.Prelude.{◌≡◌, ◌≢◌, ℕ, zero, suc, ◌+◌, ◌*◌, ◌/◌, ◌<◌, ◌≤◌, true, List, [], ◌∷◌, length}
use Rattle.md_badblocks.specs.Runs.{IsBad}
use Rattle.md_bitmap.specs.Marks.{is_set}
use Rattle.md_device.specs.Device.{written}
use Rattle.md_model.specs.Events.{Event}
use Rattle.md_members.specs.DeviceWrites.Writes.{Write}
use Rattle.md_kept_members.specs.View.{MemberView}
use Rattle.md_assembly.specs.States.{is_in_sync_as}
use Rattle.md_faults.specs.declared.copy_fault.CopyFault.{CopyFault}
use Rattle.md_faults.specs.declared.copy_fault.CopyFault.TheVariants.{Halted, MemberFailed}
use Rattle.md_state.specs.DiskWrites.{AtDevice, IsTried, IsWritten}
use Rattle.md_state.specs.Steps.MakeClean.{IsIdle}
use Rattle.md_state.specs.Members.{AllInSync, IsInSync, IsMember}
use Rattle.md_state.specs.Steps.ReadData.{HoldsData}
use Rattle.md_state.specs.Steps.Rise.{Fails, Halts}
use Rattle.md_state.specs.View.{ArrayView, Disk, MirrorView}
use Rattle.md_state.specs.Trying.{FailsWriting, HaltsWriting}

-- these bytes, from this sector of the member's data area on
abbrev pub run_write : MemberView → ℕ → List ℕ → Write
run_write m sector bytes = record { sector = m.superblock.data_offset + sector; bytes = bytes }

-- the member lists this sector of the array as bad
abbrev pub Lists : MemberView → ℕ → Type 0
Lists m s = IsBad m.bad (m.superblock.data_offset + s)

-- A chunk is copied while nothing is in flight, and once each member in sync has its mark stored.
pub record MayCopyChunk (chunk : ℕ) (a : ArrayView) : Type 0 where
  pub idle : IsIdle a
  pub marked : is_set a.marks.bytes chunk ≡ true
  pub stored : AllInSync a (λ m. is_set m.stored.bytes chunk ≡ true)

-- the member in sync of the lowest role that does not list the sector
pub record IsSource (from s : ℕ) (a : ArrayView) : Type 0 where
  pub member : MemberView
  pub at : IsMember a from member
  pub role : ℕ
  pub in_sync : is_in_sync_as role member.state ≡ true
  pub unlisted : Lists member s → ⊥
  pub lowest : (j other : ℕ) (m : MemberView) → IsMember a j m → is_in_sync_as other m.state ≡ true → (Lists m s → ⊥) → role ≤ other

-- so many sectors may be copied from the one member to the other: the chunk of each may be copied
pub record MayCopy (from k sector sectors : ℕ) (a : ArrayView) : Type 0 where
  pub idle : IsIdle a
  pub may : (s : ℕ) → sector ≤ s → s < sector + sectors → MayCopyChunk (s / a.chunks.sectors) a
  pub inside : sector + sectors ≤ a.chunks.size
  pub source : (s : ℕ) → sector ≤ s → s < sector + sectors → IsSource from s a
  pub target : MemberView
  pub in_sync : IsInSync a k target
  pub apart : from ≢ k

-- these bytes are whole sectors of a member's that may be copied to member k
pub record IsCopy (k sector : ℕ) (bytes : List ℕ) (v : MirrorView) : Type 0 where
  pub from : ℕ
  pub sectors : ℕ
  pub some : 0 < sectors
  pub long : length bytes ≡ 512 * sectors
  pub may : MayCopy from k sector sectors v.array
  pub holds : HoldsData v from sector bytes

-- Of a crash within the write each of its sectors is as it was or as written (`disks.within`).
pub record CopiesTo (k sector : ℕ) (bytes : List ℕ) (old new : MirrorView) : Type 0 where
  pub copy : IsCopy k sector bytes old
  pub disks : IsWritten k (run_write copy.may.target sector bytes) old.disks new.disks
  pub array : new.array ≡ old.array

-- so many sectors from this one on
pub record FailsToCopy (k sector sectors : ℕ) (old new : MirrorView) : Type 0 where
  pub bytes : List ℕ
  pub copy : IsCopy k sector bytes old
  pub many : copy.sectors ≡ sectors
  pub fails : FailsWriting k (run_write copy.may.target sector bytes) old new

pub record HaltsCopying (k sector sectors : ℕ) (old new : MirrorView) : Type 0 where
  pub bytes : List ℕ
  pub copy : IsCopy k sector bytes old
  pub many : copy.sectors ≡ sectors
  pub halts : HaltsWriting k (run_write copy.may.target sector bytes) old new

-- the member is faulty, or the mirror is halted
abbrev pub AnswersCopy : ℕ → ArrayView → ArrayView → CopyFault → Type 0
AnswersCopy k old new (MemberFailed j) = (j ≡ k) × Fails k old new
AnswersCopy k old new Halted = Halts k old new

abbrev pub RefusesCopy : ℕ → ℕ → ℕ → MirrorView → MirrorView → CopyFault → Type 0
RefusesCopy k sector sectors old new Halted = HaltsCopying k sector sectors old new
RefusesCopy k sector sectors old new (MemberFailed j) = (j ≡ k) × FailsToCopy k sector sectors old new

-- ---- a run of sectors is its sectors, one after another
-- The write was done. What a crash within it leaves is said of the run's write, which is one.
pub record IsDone (k : ℕ) (w : Write) (before after : List Disk) : Type 0 where
  pub tried : IsTried k w before after
  pub done : AtDevice k before after (λ d e. d.honest ≡ true → e.content ≡ written d.content w.sector w.bytes)

pub record CopiesSector (from k s : ℕ) (old new : MirrorView) : Type 0 where
  pub bytes : List ℕ
  pub long : length bytes ≡ 512
  pub may : MayCopy from k s 1 old.array
  pub holds : HoldsData old from s bytes
  pub disks : IsDone k (run_write may.target s bytes) old.disks new.disks
  pub array : new.array ≡ old.array

-- the events of so many sectors
abbrev pub copies_of : ℕ → ℕ → ℕ → ℕ → List Event
copies_of from k s zero = []
copies_of from k s (suc n) = Event.Copy from k s ∷ copies_of from k (s + 1) n
