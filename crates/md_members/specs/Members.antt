-- What reading a whole member gives (super_1_load and the bitmap's reading in the kernel's md driver; the limits and the
-- order of refusals are this project's own).
use Rattle.std.specs.Prelude.{◌≡◌, ◌⊎◌, ℕ, ◌+◌, ◌*◌, ◌/◌, ◌&&◌, Bool, true, false, List, [], length, Option, Some, None, Result, MatchResult}
use Rattle.md_device.specs.declared.fault_list.Fault.{Fault}
use Rattle.md_super.specs.declared.superblock.Superblock.{Superblock}
use Rattle.md_super.specs.Log.{has_bad_block_log}
use Rattle.md_bitmap.specs.declared.header.BitmapHeader.{BitmapHeader}
use Rattle.md_bitmap.specs.Marks.{Bitmap}
use Rattle.md_badblocks.specs.declared.run.Run.{Run}
use Rattle.md_members.specs.declared.fault.MemberFault.{MemberFault}
use Rattle.md_members.specs.declared.fault.MemberFault.TheVariants.{Region}
use Rattle.md_members.specs.declared.info.MemberInfo.{MemberInfo}
use Rattle.md_members.specs.Areas.{AreAreasPlaced, has_bad_blocks, has_bitmap}
use Rattle.md_members.specs.Reading.{ReadsSuper, ReadsBitmap, ReadsLog, RefusesSuper, RefusesBitmap, RefusesLog}

-- the sectors of a device of this content
abbrev pub sectors_of_device : List ℕ → ℕ
sectors_of_device content = length content / 512

-- the bitmap that was read, where the superblock has one
abbrev pub HasBitmap : List ℕ → Bool → Superblock → Option BitmapHeader → Option Bitmap → Type 0
HasBitmap content honest v (Some h) (Some m) = (has_bitmap v ≡ true) × ReadsBitmap content honest (sectors_of_device content) v h m
HasBitmap content honest v None None = has_bitmap v ≡ false
HasBitmap content honest v _ _ = ⊥

-- the log is to be read: the superblock lists bad blocks, and has a log
abbrev pub reads_log : Superblock → Bool
reads_log v = has_bad_blocks v && has_bad_block_log v

-- the bad set that was read, or none where there is nothing to read
abbrev pub HasBadSet : List ℕ → Bool → Superblock → List Run → Type 0
HasBadSet content honest v bad = ((reads_log v ≡ true) × ReadsLog content honest v bad) ⊎ ((reads_log v ≡ false) × (bad ≡ []))

-- a member, as its device has it
pub record IsReadMember (content : List ℕ) (honest : Bool) (info : MemberInfo) : Type 0 where
  pub superblock : ReadsSuper content honest info.superblock
  pub size : length content ≡ 512 * info.sectors
  pub placed : AreAreasPlaced (sectors_of_device content) info.superblock 1
  pub bitmap : HasBitmap content honest info.superblock info.header info.marks
  pub bad : HasBadSet content honest info.superblock info.bad

-- why the rest of a member is refused, whose superblock was read, where `Failed P` says that a call on the device failed that has P
pub data RefusesRest (content : List ℕ) (honest : Bool) (Failed : (Fault → Type 0) → Type 0) (v : Superblock) (fault : MemberFault) : Type 0 where
  by_place : fault ≡ Region → (AreAreasPlaced (sectors_of_device content) v 1 → ⊥) → RefusesRest content honest Failed v fault
  by_bitmap : AreAreasPlaced (sectors_of_device content) v 1 → has_bitmap v ≡ true → RefusesBitmap content honest Failed (sectors_of_device content) v fault → RefusesRest content honest Failed v fault
  by_log : AreAreasPlaced (sectors_of_device content) v 1 → (h : Option BitmapHeader) (m : Option Bitmap) → HasBitmap content honest v h m → reads_log v ≡ true → RefusesLog Failed v fault → RefusesRest content honest Failed v fault

-- the superblock is refused, or the rest of a member whose superblock was read
abbrev pub RefusesMember : List ℕ → Bool → ((Fault → Type 0) → Type 0) → MemberFault → Type 0
RefusesMember content honest Failed fault =
    RefusesSuper content honest Failed fault
    ⊎ (v : Superblock) × ReadsSuper content honest v × RefusesRest content honest Failed v fault

abbrev pub GivesMember : List ℕ → Bool → ((Fault → Type 0) → Type 0) → Result MemberInfo MemberFault → Type 0
GivesMember content honest Failed result = MatchResult result (IsReadMember content honest) (RefusesMember content honest Failed)

-- the bitmap tells of the array whose superblock it stands beside: its uuid and size are the array's, its state is 0, and
-- its events are the superblock's or one more (this project's own)
pub record IsAccepted (v : Superblock) (h : BitmapHeader) : Type 0 where
  pub uuid : h.uuid ≡ v.set_uuid
  pub size : h.sync_size ≡ v.size
  pub state : h.state ≡ 0
  pub events : (h.events ≡ v.events) ⊎ (h.events ≡ v.events + 1)
