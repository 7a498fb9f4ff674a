-- A device that left comes back, and lacks what was marked since, or all. For all of it BITMAP_STALE is set first in the
-- state of its bitmap's header (md-bitmap.h), so that the bitmap is not accepted (this project's own).
use Rattle.std.specs.Prelude.{◌≡◌, ◌≢◌, ◌⊎◌, ℕ, ◌<◌, ◌≤◌, true, is_some, bit_or, List, [], ◌∷◌, ◌++◌, take, drop}
use Rattle.byteorder.specs.Endian.{little_bytes}
use Rattle.md_format.specs.Fields.{number_at}
use Rattle.md_members.specs.DeviceWrites.Writes.{Write}
use Rattle.md_members.specs.Members as members
use Rattle.md_members.specs.Reading.{BitmapStartsAt, IsRead}
use Rattle.md_members.specs.declared.fault.MemberFault.TheVariants as member_fault
use Rattle.md_members.specs.declared.info.MemberInfo.{MemberInfo}
use Rattle.md_kept_members.specs.View.{MemberView}
use Rattle.md_faults.specs.declared.re_add_fault.ReAddFault.{ReAddFault}
use Rattle.md_faults.specs.declared.re_add_fault.ReAddFault.TheVariants.{Member, WriteFault}
use Rattle.md_state.specs.DiskWrites.{IsFailed, IsWritten}
use Rattle.md_state.specs.Members.{IsMember}
use Rattle.md_state.specs.Missing.{is_missing}
use Rattle.md_state.specs.View.{ArrayView, Disk, MirrorView}
use Rattle.md_array.specs.Steps.ReAdd.{IsOnlyRead, ReAdds, RefusesReAdd}
use Rattle.md_metadata.specs.declared.coming_back.extent_of_rebuild.RebuildExtent.{RebuildExtent}
use Rattle.md_metadata.specs.declared.coming_back.extent_of_rebuild.RebuildExtent.TheVariants.{All, Marked}

-- the first sector of a bitmap, with BITMAP_STALE in the state of its header
unfoldable pub stale_sector : List ℕ → List ℕ
stale_sector sector = take 48 sector ++ little_bytes 4 (bit_or (number_at 4 48 sector) 2) ++ drop 52 sector

-- the first sector of a bitmap that starts at this one is written
abbrev pub first_write : ℕ → List ℕ → Write
first_write start sector = record { sector = start; bytes = sector }

-- a member has a bitmap, is of this array, and has no events that the array lacks
pub record MayBeMadeStale (a : ArrayView) (info : MemberInfo) : Type 0 where
  pub has_header : is_some info.header ≡ true
  pub of_array : info.superblock.set_uuid ≡ a.shared.set_uuid
  pub no_newer : info.superblock.events ≤ a.shared.events

-- a device is read as such a member, whose bitmap starts at this sector
pub record FindsBitmap (a : ArrayView) (device looked : Disk) (start : ℕ) : Type 0 where
  pub info : MemberInfo
  pub member : members.IsReadMember device.content device.honest info
  pub may : MayBeMadeStale a info
  pub at : BitmapStartsAt info.superblock start
  pub only_read : IsOnlyRead device looked

-- these bytes are read of the bitmap's first sector
pub record ReadsFirst (start : ℕ) (sector : List ℕ) (looked read : Disk) : Type 0 where
  pub first : IsRead looked.content looked.honest start 512 sector
  pub only_read : IsOnlyRead looked read

-- BITMAP_STALE is set in the bitmap's first sector as it was read, and nothing else is written
pub record IsMadeStale (start : ℕ) (sector : List ℕ) (looked stale : Disk) : Type 0 where
  pub read : Disk
  pub reads : ReadsFirst start sector looked read
  pub flagged : 0 < number_at 4 48 (stale_sector sector)
  pub written : IsWritten 0 (first_write start (stale_sector sector)) (read ∷ []) (stale ∷ [])

-- ---- it comes back
pub record ComesBackStale (start k : ℕ) (looked : Disk) (old new : MirrorView) : Type 0 where
  pub sector : List ℕ
  pub stale : Disk
  pub made : IsMadeStale start sector looked stale
  pub re_adds : ReAdds k stale old new

-- member k lacks every chunk
abbrev pub LacksAll : ℕ → ArrayView → Type 0
LacksAll k a = (m : MemberView) → IsMember a k m → (c : ℕ) → c < a.marks.chunks → is_missing a m c ≡ true

-- A device comes back, and lacks every chunk, if it does what it answers.
pub record ComesBackWhole (k : ℕ) (device : Disk) (old new : MirrorView) : Type 0 where
  pub start : ℕ
  pub looked : Disk
  pub finds : FindsBitmap old.array device looked start
  pub comes : ComesBackStale start k looked old new
  pub lacks_all : device.honest ≡ true → LacksAll k new.array

abbrev pub ComesBack : RebuildExtent → ℕ → Disk → MirrorView → MirrorView → Type 0
ComesBack Marked k device old new = ReAdds k device old new
ComesBack All k device old new = ComesBackWhole k device old new

-- ---- it does not
-- the bitmap's first sector is put back as it was, and the fault stays; or the write of it fails
abbrev pub IsPutBack : ℕ → List ℕ → Disk → Disk → ReAddFault → ReAddFault → Type 0
IsPutBack start sector back given refusal fault =
    (IsWritten 0 (first_write start sector) (back ∷ []) (given ∷ []) × (fault ≡ refusal))
    ⊎ (IsFailed 0 (first_write start sector) (back ∷ []) (given ∷ []) × (fault ≡ WriteFault))

-- the bitmap's first sector can't be read
pub record IsUnread (looked given : Disk) (old new : MirrorView) : Type 0 where
  pub unchanged : new ≡ old
  pub only_read : IsOnlyRead looked given
  pub failed : looked.honest ≡ true → looked.failures < given.failures

-- the flag can't be written
pub record IsUnflagged (start : ℕ) (looked given : Disk) (old new : MirrorView) : Type 0 where
  pub unchanged : new ≡ old
  pub sector : List ℕ
  pub read : Disk
  pub reads : ReadsFirst start sector looked read
  pub failed : IsFailed 0 (first_write start (stale_sector sector)) (read ∷ []) (given ∷ [])

-- the flag is set, the device does not come back, and the sector is put back
pub record IsRefusedStale (start : ℕ) (looked given : Disk) (old new : MirrorView)
    (fault : ReAddFault) : Type 0 where
  pub sector : List ℕ
  pub stale : Disk
  pub made : IsMadeStale start sector looked stale
  pub back : Disk
  pub refusal : ReAddFault
  pub refused : RefusesReAdd stale back old new refusal
  pub put_back : IsPutBack start sector back given refusal fault

abbrev pub RefusesStale : ℕ → Disk → Disk → MirrorView → MirrorView → ReAddFault → Type 0
RefusesStale start looked given old new fault =
    (IsUnread looked given old new × (fault ≡ Member member_fault.ReadFault))
    ⊎ ((IsUnflagged start looked given old new × (fault ≡ WriteFault))
    ⊎ IsRefusedStale start looked given old new fault)

-- a device that is read as a member whose bitmap may be flagged is refused
pub record IsRefusedFound (device given : Disk) (old new : MirrorView) (fault : ReAddFault) : Type 0 where
  pub start : ℕ
  pub looked : Disk
  pub finds : FindsBitmap old.array device looked start
  pub refused : RefusesStale start looked given old new fault

-- Nothing is written, for a reason by which `re_add` refuses it too; or the flag is to be set.
abbrev pub RefusesWhole : Disk → Disk → MirrorView → MirrorView → ReAddFault → Type 0
RefusesWhole device given old new fault =
    ((fault ≢ WriteFault) × RefusesReAdd device given old new fault)
    ⊎ IsRefusedFound device given old new fault

abbrev pub RefusesComingBack : RebuildExtent → Disk → Disk → MirrorView → MirrorView → ReAddFault
    → Type 0
RefusesComingBack Marked device given old new fault = RefusesReAdd device given old new fault
RefusesComingBack All device given old new fault = RefusesWhole device given old new fault

-- The mirror is as it was, and so is the device, if it does what it answers and no write to it failed.
pub record HandsBackAsWas (device given : Disk) (old new : MirrorView) (fault : ReAddFault) : Type 0 where
  pub mirror : new ≡ old
  pub unwritten : device.honest ≡ true → fault ≢ WriteFault → given.content ≡ device.content
