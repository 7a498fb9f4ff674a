-- What is read of a device on which a member was laid out.
use Rattle.std.specs.Prelude.{◌≡◌, ℕ, ◌<◌, [], length, Some, IfSome}
use Rattle.md_super.specs.declared.superblock.Superblock.{Superblock}
use Rattle.md_super.specs.Checksum.{checksum_of}
use Rattle.md_super.specs.Encoding.{super_bytes}
use Rattle.md_super.specs.Faults.{NoSuperFault}
use Rattle.md_super.specs.Format.{IsSuper}
use Rattle.md_bitmap.specs.Marks.{Bitmap, is_set}
use Rattle.md_members.specs.declared.info.MemberInfo.{MemberInfo}
use Rattle.md_create.specs.declared.params.NewMember.{NewMember}

-- the superblock with the checksum of its bytes, as it is written
abbrev pub sealed : Superblock → Superblock
sealed v = record v { sb_csum = checksum_of (super_bytes v) (length v.roles) }

-- a reader of the bytes that are written for a superblock finds its fields in them, and no fault
pub record IsReadBack (v : Superblock) : Type 0 where
  pub size : length (super_bytes v) ≡ 4096
  pub fields : IsSuper (super_bytes v) (sealed v)
  pub sound : NoSuperFault (super_bytes v)

-- as many chunks, and the same ones marked
pub record HasSameMarks (m read : Bitmap) : Type 0 where
  pub chunks : read.chunks ≡ m.chunks
  pub bits : (c : ℕ) → c < m.chunks → is_set read.bytes c ≡ is_set m.bytes c

-- the member itself was read, and no bad block
pub record ReadsBack (member : NewMember) (info : MemberInfo) : Type 0 where
  pub superblock : info.superblock ≡ sealed member.superblock
  pub header : info.header ≡ Some member.header
  pub marks : IfSome info.marks (HasSameMarks member.marks)
  pub bad : info.bad ≡ []
