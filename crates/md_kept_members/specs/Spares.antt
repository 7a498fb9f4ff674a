-- What is kept in memory of a new device that comes in as a spare, and which member's bitmap it goes by.
use Rattle.std.specs.Prelude.{◌≡◌, ℕ, false, List, [], map, slice_get, Some}
use Rattle.md_super.specs.declared.superblock.Superblock.{Superblock}
use Rattle.md_bitmap.specs.declared.header.BitmapHeader.{BitmapHeader}
use Rattle.md_bitmap.specs.Marks.{Bitmap}
use Rattle.md_assembly.specs.Assembled.{IsFirstFreshest}
use Rattle.md_assembly.specs.declared.state.MemberState.TheVariants.{Spare}
use Rattle.md_kept_members.specs.View.{MemberView}

-- A spare as it was laid out: its superblock is not due, and it lists nothing.
abbrev pub kept_spare : Superblock → BitmapHeader → Bitmap → MemberView
kept_spare v h marks = record { superblock = v; header = h; stored = marks; bad = []; state = Spare; due = false; offset = v.recovery_offset; stored_offset = v.recovery_offset }

abbrev pub superblocks_kept : List MemberView → List Superblock
superblocks_kept members = map (λ m. m.superblock) members

-- the header of the member that is the freshest by the superblocks that are kept, as they were read
pub record IsOfFreshest (members : List MemberView) (h : BitmapHeader) : Type 0 where
  pub index : ℕ
  pub member : MemberView
  pub at : slice_get members index ≡ Some member
  pub freshest : IsFirstFreshest (superblocks_kept members) index member.superblock
  pub header : h ≡ member.header
