-- How a new member is laid out on its device.
use Rattle.std.specs.Prelude.{◌≡◌, ◌⊎◌, ℕ, ◌+◌, ◌-◌, ◌*◌, ◌<◌, List, [], ◌∷◌, ◌++◌, replicate}
use Rattle.md_device.specs.Splice.{SameOutside}
use Rattle.md_device.specs.Device.{held}
use Rattle.md_device.specs.Crashes.{IsMixed}
use Rattle.md_super.specs.declared.superblock.Superblock.{Superblock}
use Rattle.md_super.specs.Encoding.{super_bytes}
use Rattle.md_bitmap.specs.Sectors.{bitmap_sector, bitmap_sectors}
use Rattle.md_create.specs.declared.params.NewMember.{NewMember}
use Rattle.md_members.specs.DeviceWrites.Bitmaps.{bitmap_writes}
use Rattle.md_members.specs.DeviceWrites.Writes.{Write, after}

-- zeros in place of a superblock, so that no crash leaves an old one over an emptied log
abbrev pub wipe : Write
wipe = record { sector = 8; bytes = replicate 4096 0 }

-- a bad block log without entries
abbrev pub empty_log : Write
empty_log = record { sector = 2032; bytes = replicate 4096 0xff }

-- the superblock in its place
abbrev pub super_write_of : Superblock → Write
super_write_of v = record { sector = 8; bytes = super_bytes v }

-- how many sectors a member's bitmap takes
abbrev pub bitmap_sectors_of : NewMember → ℕ
bitmap_sectors_of member = bitmap_sectors member.marks.chunks

-- the writes that lay a member out, in their order: all but its superblock, and that
abbrev pub others_of : NewMember → List Write
others_of member = wipe ∷ empty_log ∷ bitmap_writes 16 member.header member.marks (bitmap_sectors_of member)

abbrev pub writes_of : NewMember → List Write
writes_of member = others_of member ++ super_write_of member.superblock ∷ []

-- nothing has changed but in a member's parts: its superblock, its bitmap and its log
pub record KeepsOthers (member : NewMember) (old new : List ℕ) : Type 0 where
  pub behind_bitmap : held new (16 + bitmap_sectors_of member) (512 * (2016 - bitmap_sectors_of member)) ≡ held old (16 + bitmap_sectors_of member) (512 * (2016 - bitmap_sectors_of member))
  pub others : SameOutside (512 * 8) (512 * 2032) old new

-- what stands on the device then, once all of them are done
pub record IsLaidOutAs (old : List ℕ) (member : NewMember) (new : List ℕ) : Type 0 where
  pub superblock : held new 8 4096 ≡ super_bytes member.superblock
  pub bitmap : (i : ℕ) → i < bitmap_sectors_of member → held new (16 + i) 512 ≡ bitmap_sector member.header member.marks i
  pub log : held new 2032 4096 ≡ replicate 4096 0xff
  pub kept : KeepsOthers member old new

-- What a crash leaves while a member is laid out. The wipe was cut short, and nothing else has changed; or zeros stand in the
-- superblock's place, so that the device has none; or all other parts stand, and the superblock over zeros was cut short.
abbrev pub IsHalfLaidOut : List ℕ → NewMember → List ℕ → Type 0
IsHalfLaidOut old member left =
    IsMixed 8 wipe.bytes old left
    ⊎ (((held left 8 4096 ≡ replicate 4096 0) × KeepsOthers member old left)
    ⊎ IsMixed 8 (super_bytes member.superblock) (after old (others_of member)) left)
