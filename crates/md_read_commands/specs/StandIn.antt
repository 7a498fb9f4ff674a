-- A member whose superblock was made in memory, since its own can't be read.
use Rattle.std.specs.Prelude.{◌≡◌, ◌≢◌, ◌↔◌, ◌⊎◌, ◌==◌, ◌+◌, ◌*◌, ◌<◌, ◌≤◌, ◌&&◌, ◌||◌, ℕ, Bool, true, false, not, bit_and, bit_or, if◌then◌else◌, List, codes, drop, length, slice_get, slice_index_or, Option, Some, None}
use Rattle.md_assembly.specs.declared.state.MemberState.{MemberState}
use Rattle.md_assembly.specs.States.{is_active, is_in_sync, is_recovering, state_of, takes_role}
use Rattle.md_bitmap.specs.Faults.{NoneStands}
use Rattle.md_bitmap.specs.Marks.{Bitmap, is_set}
use Rattle.md_bitmap.specs.declared.header.BitmapHeader.{BitmapHeader}
use Rattle.md_device.specs.Device.{held}
use Rattle.md_format.specs.Fields.{bytes_at, number_at}
use Rattle.md_kept_members.specs.View.{MemberView}
use Rattle.md_super.specs.declared.superblock.Superblock.{Superblock}
use Rattle.md_super.specs.declared.fault.SuperFault.TheVariants.{Checksum, Magic}
use Rattle.md_state.specs.Members.{IsMember}
use Rattle.md_state.specs.Rests.{Rests}
use Rattle.md_state.specs.Steps.CopyData.{Lists}
use Rattle.md_state.specs.Steps.ReadData.{HoldsData}
use Rattle.md_state.specs.View.{ArrayView, Disk, MirrorView, of_disks}
use Rattle.md_members.specs.Members.{IsReadMember, RefusesMember, reads_log}
use Rattle.md_members.specs.Reading.{BitmapStartsAt, CallFails, LogStartsAt, ReadsSuper, RefusesSuper, front_of}
use Rattle.md_members.specs.declared.fault.MemberFault.{MemberFault}
use Rattle.md_members.specs.declared.fault.MemberFault.TheVariants.{NoMemory, ReadFault, Super}
use Rattle.md_members.specs.declared.info.MemberInfo.{MemberInfo}
use Rattle.md_read_commands.specs.declared.stand_in.own.Own.{Own}
use Rattle.md_read_commands.specs.declared.stand_in.own.Own.TheVariants.{Lost, Read}
use Rattle.md_read_commands.specs.declared.stand_in.put.StandIn.{StandIn}

-- The UUID of the device in such a superblock. It stands in memory alone, so that no disk has it.
abbrev pub made_uuid : List ℕ
made_uuid = codes "tazmulja data-of"

abbrev pub IsMadeHere : Superblock → Type 0
IsMadeHere own = own.device_uuid ≡ made_uuid

-- a superblock was made here, and by it the member lacks what the array has: none of its data count as the array's
abbrev pub IsStandIn : MemberState → Superblock → Type 0
IsStandIn state own = (is_recovering state ≡ true) × IsMadeHere own

-- Member k is such a one, does not list the sector, and holds these bytes there.
pub record GivesAsStandIn (k s : ℕ) (block : List ℕ) (old new : MirrorView) : Type 0 where
  pub rests : Rests old new
  pub member : MemberView
  pub at : IsMember old.array k member
  pub stand_in : IsStandIn member.state member.superblock
  pub unlisted : Lists member s → ⊥
  pub holds : HoldsData old k s block

-- ---- which device it may be
-- the role of the device with this number, by a superblock
abbrev pub role_of_number : Superblock → ℕ → ℕ
role_of_number v number = slice_index_or v.roles number 65535

-- A member has the role itself, or is in sync and tells otherwise of the device with this number.
abbrev pub doubts_device : Superblock → MemberState → ℕ → ℕ → Bool
doubts_device own state number role =
    takes_role role state || (is_in_sync state && not (role_of_number own number == role))

-- of the first n members none has the number
abbrev pub NoneOf : List MemberView → ℕ → ℕ → Type 0
NoneOf members number n =
    (k : ℕ) (m : MemberView) → k < n → slice_get members k ≡ Some m → m.superblock.dev_number ≢ number

pub record IsFirstOf (members : List MemberView) (number k : ℕ) : Type 0 where
  pub member : MemberView
  pub at : slice_get members k ≡ Some member
  pub is : member.superblock.dev_number ≡ number
  pub before : NoneOf members number k

-- none of the first n members doubts that the device is in sync in the role
abbrev pub NoneDoubts : List MemberView → ℕ → ℕ → ℕ → Type 0
NoneDoubts members number role n =
    (k : ℕ) (m : MemberView) → k < n → slice_get members k ≡ Some m
    → doubts_device m.superblock m.state number role ≡ false

-- The array has a device with this number in sync, as far as its members tell, and none of them is that.
pub record IsFreeNumber (a : ArrayView) (number : ℕ) : Type 0 where
  pub in_role : role_of_number a.shared number < a.shared.raid_disks
  pub free : NoneOf a.members number (length a.members)
  pub undoubted : NoneDoubts a.members number (role_of_number a.shared number) (length a.members)

-- ---- what can be read of its own
-- a superblock of its own tells that it is this device of the array, which was in sync
pub record IsOwnSuperblock (freshest : Superblock) (number : ℕ) (own : Superblock) : Type 0 where
  pub array : own.set_uuid ≡ freshest.set_uuid
  pub number_is : own.dev_number ≡ number
  pub in_sync : is_in_sync (state_of freshest own) ≡ true
  pub no_later : own.events ≤ freshest.events

-- why a superblock counts as one that can't be read
abbrev pub IsLostBy : MemberFault → Type 0
IsLostBy ReadFault = Unit {0}
IsLostBy (Super Magic) = Unit {0}
IsLostBy (Super Checksum) = Unit {0}
IsLostBy fault = ⊥

-- the magic number of a superblock (MD_SB_MAGIC of md_p.h)
abbrev pub magic : ℕ
magic = 0xa92b_4efc

-- The first sector of a superblock (struct mdp_superblock_1 of md_p.h) gives the device with this number the role that it has by the freshest.
-- The roles of greater numbers stand past it.
pub record BearsRole (freshest : Superblock) (number : ℕ) (sector : List ℕ) : Type 0 where
  pub has : number < number_at 4 220 sector
  pub role : number < 128 → number_at 2 (256 + 2 * number) sector ≡ role_of_number freshest number

-- The sector tells that it is of this device of the array, in sync, and with its data where the freshest has them. Its events are the
-- freshest's or one less.
pub record FirstSectorFits (freshest : Superblock) (number : ℕ) (sector : List ℕ) : Type 0 where
  pub array : bytes_at 16 16 sector ≡ freshest.set_uuid
  pub number_is : number_at 4 160 sector ≡ number
  pub recovered : bit_and (number_at 4 8 sector) 2 ≡ 0
  pub bears : BearsRole freshest number sector
  pub no_earlier : freshest.events ≤ number_at 8 200 sector + 1
  pub no_later : number_at 8 200 sector ≤ freshest.events
  pub size : number_at 8 80 sector ≡ freshest.size
  pub offset : number_at 8 128 sector ≡ freshest.data_offset

-- The sector says that the log has no entries (BAD_BLOCKS of md_p.h).
pub record ListsNothing (sector : List ℕ) : Type 0 where
  pub is_super : number_at 4 0 sector ≡ magic
  pub no_entries : bit_and (number_at 4 8 sector) 8 ≡ 0

-- What stands there is no first sector of a superblock, or it fits; and its log may have entries, unless it says that there are none.
pub record FrontTells (freshest : Superblock) (number : ℕ) (may_list : Bool) (sector : List ℕ) : Type 0 where
  pub fits : number_at 4 0 sector ≡ magic → FirstSectorFits freshest number sector
  pub lists : (may_list ≡ false) ↔ ListsNothing sector

-- A read failed, so that its log may have entries, or the first sector of the superblock tells so.
abbrev pub FitsOrFailed : Superblock → ℕ → Bool → List ℕ → ℕ → ℕ → Type 0
FitsOrFailed freshest number may_list content before after =
    ((before < after) × (may_list ≡ true)) ⊎ FrontTells freshest number may_list (held content 8 512)

-- The bytes of a bitmap's header (struct bitmap_super_s of md-bitmap.h) tell of the array, and of its events, or one less or more.
pub record HeaderFits (freshest : Superblock) (header : List ℕ) : Type 0 where
  pub array : bytes_at 16 8 header ≡ freshest.set_uuid
  pub no_earlier : freshest.events ≤ number_at 8 24 header + 1
  pub no_later : number_at 8 24 header ≤ freshest.events + 1

-- A bitmap's header in this sector, if there is one, tells so.
abbrev pub HeaderTells : Superblock → List ℕ → Type 0
HeaderTells freshest sector = NoneStands (front_of sector) → HeaderFits freshest (front_of sector)

-- A read failed, or the sector tells so in which a bitmap starts by the freshest.
abbrev pub HeaderFitsOrFailed : Superblock → List ℕ → ℕ → ℕ → Type 0
HeaderFitsOrFailed freshest content before after =
    (start : ℕ) → BitmapStartsAt freshest start → 512 * start + 512 ≤ length content
    → (before < after) ⊎ HeaderTells freshest (held content start 512)

-- Between two moments no superblock was read of the device: the read failed, or what was read is none. What its first sector tells, and
-- then a bitmap's header where the freshest has its own, fits.
pub record LacksSuperblock (freshest : Superblock) (number : ℕ) (may_list : Bool)
    (old new : Disk) : Type 0 where
  pub fault : MemberFault
  pub is : IsLostBy fault
  pub mid : Disk
  pub refused : RefusesSuper old.content old.honest (CallFails of_disks old mid) fault
  pub after : Disk
  pub front : 512 * 9 ≤ length old.content → old.honest ≡ true
      → FitsOrFailed freshest number may_list old.content mid.failures after.failures
  pub header : old.honest ≡ true → HeaderFitsOrFailed freshest old.content after.failures new.failures
  pub counted : (old.failures ≤ mid.failures) × (mid.failures ≤ after.failures) ×
      (after.failures ≤ new.failures)

-- Between two moments no whole member was read of it, and memory was there.
pub record IsUnreadMember (old new : Disk) : Type 0 where
  pub fault : MemberFault
  pub memory : fault ≢ NoMemory
  pub refused : RefusesMember old.content old.honest (CallFails of_disks old new) fault

-- The superblock was read, and is its own; the bitmap or the log was not then.
pub record LacksRest (freshest : Superblock) (number : ℕ) (own : Superblock) (old new : Disk) : Type 0 where
  pub read : ReadsSuper old.content old.honest own
  pub is : IsOwnSuperblock freshest number own
  pub mid : Disk
  pub content : mid.content ≡ old.content
  pub honest : mid.honest ≡ old.honest
  pub counted : old.failures ≤ mid.failures
  pub unread : IsUnreadMember mid new

abbrev pub LacksWhole : Superblock → ℕ → Own → Disk → Disk → Type 0
LacksWhole freshest number (Read own) old new = LacksRest freshest number own old new
LacksWhole freshest number (Lost may_list) old new = LacksSuperblock freshest number may_list old new

-- where its data begin: by its own superblock, or else as by that of the member that shows the array
abbrev pub offset_by : Superblock → Own → ℕ
offset_by freshest (Read own) = own.data_offset
offset_by freshest (Lost may_list) = freshest.data_offset

-- The feature map of a member in sync, or of one that is recovering (RECOVERY_OFFSET of md_p.h).
abbrev pub with_recovery : Bool → ℕ → ℕ
with_recovery in_sync feature_map = if in_sync then bit_and feature_map 0xffff_fffd else bit_or feature_map 2

-- the feature map of a member whose log, where there is one, has entries or not (BAD_BLOCKS of md_p.h)
abbrev pub with_entries : Bool → ℕ → ℕ
with_entries lists feature_map = if lists then bit_or feature_map 8 else bit_and feature_map 0xffff_fff7

-- the superblock of which one is made: its own, or that of the member that shows the array
abbrev pub shown_by : Superblock → Own → Superblock
shown_by freshest (Read own) = own
shown_by freshest (Lost may_list) = freshest

-- the member's feature map: where its own superblock can't be read, its log has entries unless that says that there are none
abbrev pub map_by : Superblock → Own → ℕ
map_by freshest (Read own) = own.feature_map
map_by freshest (Lost may_list) = with_entries may_list freshest.feature_map

-- a superblock has its log where the other has it, and this feature map
pub record HasLogOf (v : Superblock) (feature_map : ℕ) (made : Superblock) : Type 0 where
  pub features : made.feature_map ≡ feature_map
  pub shift : made.bblog_shift ≡ v.bblog_shift
  pub size : made.bblog_size ≡ v.bblog_size
  pub offset : made.bblog_offset ≡ v.bblog_offset

-- A superblock was made for the device with this number. Its log, and whether that has entries, are as the device's own superblock says, as
-- far as that can be read.
pub record IsMadeOf (freshest : Superblock) (own : Own) (wanted : StandIn) (made : Superblock) : Type 0 where
  pub is_made : IsMadeHere made
  pub number_is : made.dev_number ≡ wanted.number
  pub log : HasLogOf (shown_by freshest own) (with_recovery wanted.compared (map_by freshest own)) made

-- ---- what the member shows then
-- all chunks are marked
abbrev pub AreAllMarked : Option Bitmap → Type 0
AreAllMarked None = ⊥
AreAllMarked (Some marks) = (i : ℕ) → i < marks.chunks → is_set marks.bytes i ≡ true

-- the bitmap has chunks of so many bytes
abbrev pub HasChunksOfBytes : ℕ → Option BitmapHeader → Type 0
HasChunksOfBytes chunk_bytes None = ⊥
HasChunksOfBytes chunk_bytes (Some header) = header.chunksize ≡ chunk_bytes

-- By its superblock it is that device of the array, and in sync if it is to be compared, and else recovering. It has the array's size, a
-- bitmap of these chunks, which are all marked, and its data and its log where the superblock that was made has them.
pub record IsCountedMember (wanted : StandIn) (made : Superblock) (chunk_bytes : ℕ)
    (freshest : Superblock) (info : MemberInfo) : Type 0 where
  pub is_made : IsMadeHere info.superblock
  pub number : info.superblock.dev_number ≡ wanted.number
  pub array : info.superblock.set_uuid ≡ freshest.set_uuid
  pub active : is_active (state_of freshest info.superblock) ≡ true
  pub in_sync : is_in_sync (state_of freshest info.superblock) ≡ wanted.compared
  pub offset_is : info.superblock.data_offset ≡ made.data_offset
  pub size : info.superblock.size ≡ freshest.size
  pub log : HasLogOf made made.feature_map info.superblock
  pub chunks : HasChunksOfBytes chunk_bytes info.header
  pub marked : AreAllMarked info.marks

-- a member that counts so is read of a device
pub record ReadsCounted (wanted : StandIn) (made : Superblock) (chunk_bytes : ℕ) (freshest : Superblock)
    (disk : Disk) : Type 0 where
  pub info : MemberInfo
  pub read : IsReadMember disk.content disk.honest info
  pub counted : IsCountedMember wanted made chunk_bytes freshest info

-- what stands from the sector on is as it was
abbrev pub IsSameFrom : ℕ → List ℕ → List ℕ → Type 0
IsSameFrom sector old new = drop (512 * sector) new ≡ drop (512 * sector) old

-- the bytes of the log, where a superblock says that it has entries
abbrev pub HoldsLog : Superblock → List ℕ → List ℕ → Type 0
HoldsLog made content bytes =
    reads_log made ≡ true → (start : ℕ) → LogStartsAt made start → bytes ≡ held content start
    (512 * made.bblog_size)

-- the log stands as it stood, where a superblock says that it has entries
abbrev pub IsSameLog : Superblock → List ℕ → List ℕ → Type 0
IsSameLog made old new =
    reads_log made ≡ true → (start : ℕ) → LogStartsAt made start
    → held new start (512 * made.bblog_size) ≡ held old start (512 * made.bblog_size)

-- A member that counts so is read of a device that lacked one, as it was made of what could be read of its own. Its data and its log are
-- those that stood there.
pub record StandsIn (wanted : StandIn) (chunk_bytes : ℕ) (freshest : Superblock)
    (old new : Disk) : Type 0 where
  pub own : Own
  pub read : Disk
  pub lacks : LacksWhole freshest wanted.number own old read
  pub made : Superblock
  pub is_made : IsMadeOf freshest own wanted made
  pub placed : made.data_offset ≡ offset_by freshest own
  pub counted : read.failures ≤ new.failures
  pub reads : ReadsCounted wanted made chunk_bytes freshest new
  pub same_data : IsSameFrom made.data_offset old.content new.content
  pub same_log : old.honest ≡ true → IsSameLog made old.content new.content
  pub honest : new.honest ≡ old.honest
