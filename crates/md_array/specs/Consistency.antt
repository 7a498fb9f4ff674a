-- What holds of a mirror between its calls: opening gives it, and each call keeps it.
use Rattle.std.specs.Prelude.{◌≡◌, ℕ, true, false, List, slice_get, Some}
use Rattle.std.specs.Int.{w32, cast_signed}
use Rattle.md_format.specs.Fields.{number_at}
use Rattle.md_model.specs.Devices.{Super}
use Rattle.md_assembly.specs.States.{is_in_sync, has_recovery_offset}
use Rattle.md_kept_members.specs.View.{MemberView}
use Rattle.md_state.specs.View.{Disk, MirrorView}
use Rattle.md_state.specs.Members.{IsMember}
use Rattle.md_state.specs.Requests.{AreInside}
use Rattle.md_array.specs.Fits.{Fits}
use Rattle.md_array.specs.Worlds.{super_in, block_on, is_listed, is_listed_next}
use Rattle.md_badblocks.specs.Runs.{IsBad}
use Rattle.md_state.specs.InMemory.{HasMarksOfSize, HasRoles}

-- these 4096 bytes of a superblock place the member's parts where its own fields do
pub record HasPlaces (m : MemberView) (block : List ℕ) : Type 0 where
  pub data_offset : number_at 8 128 block ≡ m.superblock.data_offset
  pub bitmap_offset : cast_signed w32 (number_at 4 96 block) ≡ m.superblock.bitmap_offset
  pub bblog_size : number_at 2 186 block ≡ m.superblock.bblog_size
  pub bblog_offset : cast_signed w32 (number_at 4 188 block) ≡ m.superblock.bblog_offset

-- A device has a superblock, with the member's number, its own RECOVERY_OFFSET in the feature map or none,
-- and its places. What its log lists is listed still once the superblock that is kept is stored, and that is
-- in the bad set that is kept: chunks may be listed in memory that are not stored yet, and a log that is
-- stored may be read only by the next superblock.
pub record HasSuper (m : MemberView) (d : Disk) : Type 0 where
  pub super : Super
  pub is : super_in (block_on d.content) ≡ Some super
  pub number : super.number ≡ m.superblock.dev_number
  pub recovering : super.recovering ≡ has_recovery_offset m.superblock
  pub places : HasPlaces m (block_on d.content)
  pub listed : (sector : ℕ) → is_listed m.superblock d.content sector ≡ true → is_listed_next m.superblock d.content sector ≡ true
  pub known : (sector : ℕ) → is_listed_next m.superblock d.content sector ≡ true → IsBad m.bad sector

-- The device of each member in sync has its superblock. Of other members none is asked: what they are is kept
-- in memory, and a write to one that is rebuilt may fail without making it faulty.
abbrev pub HaveSupers : MirrorView → Type 0
HaveSupers v = (k : ℕ) (d : Disk) (m : MemberView) → slice_get v.disks k ≡ Some d → IsMember v.array k m → is_in_sync m.state ≡ true → d.honest ≡ true → HasSuper m d

-- A write that halted the mirror may have left anything of a superblock.
pub record IsConsistent (v : MirrorView) : Type 0 where
  pub fits : Fits v.disks v.array
  pub roles : HasRoles v.array
  pub chunks : HasMarksOfSize v.array
  pub inside : AreInside v.array
  pub supers : v.array.halted ≡ false → HaveSupers v
