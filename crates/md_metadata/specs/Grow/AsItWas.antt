-- What is read of the devices then, and the array that they make: it is what it was.
use Rattle.std.specs.Prelude.{◌≡◌, ℕ, ◌+◌, ◌*◌, ◌≤◌, true, List, length, slice_get, Some, IfSome, ◌↔◌}
use Rattle.md_device.specs.Splice.{part}
use Rattle.md_super.specs.declared.superblock.Superblock.{Superblock}
use Rattle.md_super.specs.Merge.{merged}
use Rattle.md_badblocks.specs.Runs.{IsBad}
use Rattle.md_members.specs.declared.info.MemberInfo.{MemberInfo}
use Rattle.md_assembly.specs.States.{is_in_sync, state_of}
use Rattle.md_create.specs.ReadBack.{HasSameMarks}
use Rattle.md_metadata.specs.declared.bitmap_grow.growth.Growth.{Growth}
use Rattle.md_metadata.specs.Grow.Growth.{with_place}

-- the own fields that a member gets
abbrev pub own_of : Growth → MemberInfo → Superblock
own_of g was = with_place g.start was.superblock

-- A member is read as it was, with the bitmap: its superblock has the array's fields, and its own ones but for the bitmap's, and its log
-- lists the same sectors.
pub record ReadsGrown (g : Growth) (was read : MemberInfo) : Type 0 where
  pub sectors : read.sectors ≡ was.sectors
  pub sum : ℕ  -- the checksum of its bytes
  pub superblock : read.superblock ≡ record (merged g.shared (own_of g was)) { sb_csum = sum }
  pub header : read.header ≡ Some g.header
  pub marks : IfSome read.marks (HasSameMarks g.marks)
  pub bad : (sector : ℕ) → IsBad read.bad sector ↔ IsBad was.bad sector

-- each member is, in its place
pub record AreReadGrown (g : Growth) (infos reads : List MemberInfo) : Type 0 where
  pub as_many : length reads ≡ length infos
  pub each : (k : ℕ) (was read : MemberInfo) → slice_get infos k ≡ Some was → slice_get reads k ≡ Some read → ReadsGrown g was read

-- a member's data are what they were
abbrev pub KeepsMemberData : MemberInfo → List ℕ → List ℕ → Type 0
KeepsMemberData was old new =
    (at n : ℕ) → 512 * was.superblock.data_offset ≤ at → at + n ≤ 512 * (was.superblock.data_offset + was.superblock.data_size)
    → part new at n ≡ part old at n

-- by one superblock a member is in sync, and by another it has that state still
pub record StaysInSync (before after : Superblock) (was read : MemberInfo) : Type 0 where
  pub in_sync : is_in_sync (state_of before was.superblock) ≡ true
  pub same : state_of after read.superblock ≡ state_of before was.superblock
