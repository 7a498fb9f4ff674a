-- What a new array's members say (this project's own choice among what md_p.h and md-bitmap.h allow).
use Rattle.std.specs.Prelude.{◌≡◌, ◌==◌, ℕ, ◌+◌, ◌-◌, ◌^◌, ◌&&◌, Bool, not, nat_lt, List, ◌++◌, length, map, take, replicate, decimal, All, Option, Some, None, option_map, slice_index_or, if◌then◌else◌, is_some, pos}
use Rattle.std.specs.List.{range_with_len, filter_map}
use Rattle.sha1.specs.Sha1.{sha1}
use Rattle.uuid.specs.Parts.{with_version, with_variant}
use Rattle.uuid.specs.declared.Version.TheVariants.{Sha1}
use Rattle.uuid.specs.declared.Variant.TheVariants.{RFC4122}
use Rattle.md_super.specs.declared.superblock.Superblock.{Superblock}
use Rattle.md_bitmap.specs.declared.header.BitmapHeader.{BitmapHeader}
use Rattle.md_bitmap.specs.Marks.{Bitmap, is_set}
use Rattle.md_bitmap.specs.Sound.{chunk_count}
use Rattle.md_create.specs.declared.params.CreateParams.{CreateParams}
use Rattle.md_create.specs.declared.params.NewMember.{NewMember}

-- the version 5 UUID of a name in a namespace (RFC 9562)
unfoldable pub named_uuid : List ℕ → List ℕ → List ℕ
named_uuid namespace name = with_version (with_variant (take 16 (sha1 (namespace ++ name))) RFC4122) Sha1

-- a device's UUID: its number in decimal is the name, and the array's UUID the namespace
abbrev pub device_uuid_of : List ℕ → ℕ → List ℕ
device_uuid_of set_uuid number = named_uuid set_uuid (decimal number)

-- the size of the device for a role, where there is one
abbrev pub device_for : List (Option ℕ) → ℕ → Option ℕ
device_for sizes role = slice_index_or sizes role None

-- the role of a device number: its own, or that of a faulty one where the device is missing
abbrev pub role_for : List (Option ℕ) → ℕ → ℕ
role_for sizes number = if is_some (device_for sizes number) then number else 0xfffe

abbrev pub roles_of : List (Option ℕ) → List ℕ
roles_of sizes = map (role_for sizes) (range_with_len 0 (length sizes))

-- a device by its role, which is its number, and its sectors, where it is there
abbrev pub device_in_role : List (Option ℕ) → ℕ → Option (ℕ × ℕ)
device_in_role sizes role = option_map (λ sectors. (role, sectors)) (device_for sizes role)

-- the devices that are there, in the order of roles
abbrev pub devices_of : List (Option ℕ) → List (ℕ × ℕ)
devices_of sizes = filter_map (device_in_role sizes) (range_with_len 0 (length sizes))

-- devflags of the member of a role: WriteMostly1 of md_p.h where that role is to be write-mostly
abbrev pub flags_for : Option ℕ → ℕ → ℕ
flags_for None number = 0
flags_for (Some role) number = if role == number then 1 else 0

-- A superblock of the array, but for its device's number and size. A resync_offset of all ones is a clean array.
pub record IsNewSuper (params : CreateParams) (sizes : List (Option ℕ)) (size : ℕ) (v : Superblock) : Type 0 where
  pub feature_map : v.feature_map ≡ 1
  pub set_uuid : v.set_uuid ≡ params.set_uuid
  pub set_name : v.set_name ≡ params.name
  pub ctime : v.ctime ≡ params.ctime
  pub level : v.level ≡ 1
  pub layout : v.layout ≡ 0
  pub size_is : v.size ≡ size
  pub chunksize : v.chunksize ≡ 0
  pub raid_disks : v.raid_disks ≡ length sizes
  pub bitmap_offset : v.bitmap_offset ≡ pos 8
  pub new_level : v.new_level ≡ 0
  pub reshape_position : v.reshape_position ≡ 0
  pub delta_disks : v.delta_disks ≡ 0
  pub new_layout : v.new_layout ≡ 0
  pub new_chunk : v.new_chunk ≡ 0
  pub new_offset : v.new_offset ≡ 0
  pub data_offset : v.data_offset ≡ 2048
  pub super_offset : v.super_offset ≡ 8
  pub recovery_offset : v.recovery_offset ≡ 0
  pub cnt_corrected_read : v.cnt_corrected_read ≡ 0
  pub device_uuid : v.device_uuid ≡ device_uuid_of params.set_uuid v.dev_number
  pub devflags : v.devflags ≡ flags_for params.write_mostly v.dev_number
  pub bblog_shift : v.bblog_shift ≡ 0
  pub bblog_size : v.bblog_size ≡ 8
  pub bblog_offset : v.bblog_offset ≡ pos 2024
  pub utime : v.utime ≡ params.ctime
  pub events : v.events ≡ 1
  pub resync_offset : v.resync_offset ≡ (if params.assume_clean then 2 ^ 64 - 1 else 0)
  pub sb_csum : v.sb_csum ≡ 0
  pub roles : v.roles ≡ roles_of sizes

-- the header of each device's bitmap
pub record IsNewHeader (params : CreateParams) (size : ℕ) (h : BitmapHeader) : Type 0 where
  pub uuid : h.uuid ≡ params.set_uuid
  pub events : h.events ≡ 1
  pub events_cleared : h.events_cleared ≡ 1
  pub sync_size : h.sync_size ≡ size
  pub state : h.state ≡ 0
  pub chunksize : h.chunksize ≡ params.chunk_bytes
  pub daemon_sleep : h.daemon_sleep ≡ 5
  pub write_behind : h.write_behind ≡ 0
  pub sectors_reserved : h.sectors_reserved ≡ 2016
  pub nodes : h.nodes ≡ 0
  pub cluster_name : h.cluster_name ≡ replicate 64 0

-- all chunks are marked, or none where the array is clean
pub record HasFirstMarks (clean : Bool) (chunks : ℕ) (m : Bitmap) : Type 0 where
  pub chunks_are : m.chunks ≡ chunks
  pub bits : (i : ℕ) → is_set m.bytes i ≡ (not clean && nat_lt i chunks)

-- a member of the array
pub record IsNewMember (params : CreateParams) (sizes : List (Option ℕ)) (size : ℕ) (m : NewMember) : Type 0 where
  pub superblock : IsNewSuper params sizes size m.superblock
  pub header : IsNewHeader params size m.header
  pub marks : HasFirstMarks params.assume_clean (chunk_count size params.chunk_bytes) m.marks

-- a member's number, and the sectors of its device: those in front of its data, and its data
abbrev pub device_of_member : NewMember → ℕ × ℕ
device_of_member m = (m.superblock.dev_number, 2048 + m.superblock.data_size)

-- one member for each device that is there, in the order of roles
pub record AreMembers (params : CreateParams) (sizes : List (Option ℕ)) (size : ℕ) (members : List NewMember) : Type 0 where
  pub devices : map device_of_member members ≡ devices_of sizes
  pub each : All (IsNewMember params sizes size) members
