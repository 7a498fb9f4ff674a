-- A member as contracts see it, but for its device.
use Rattle.std.specs.Prelude.{ℕ, Bool, List}
use Rattle.md_super.specs.declared.superblock.Superblock.{Superblock}
use Rattle.md_bitmap.specs.declared.header.BitmapHeader.{BitmapHeader}
use Rattle.md_bitmap.specs.Marks.{Bitmap}
use Rattle.md_badblocks.specs.declared.run.Run.{Run}
use Rattle.md_assembly.specs.declared.state.MemberState.{MemberState}

pub record MemberView : Type 0 where
  pub superblock : Superblock  -- its own fields, the sure offset (recovery_offset) among them, as they are stored next; those of the array are shared
  pub header : BitmapHeader  -- of its bitmap, as it was read
  pub stored : Bitmap  -- the marks on its device, as far as the mirror knows
  pub bad : List Run
  pub state : MemberState
  pub due : Bool  -- its superblock has to be stored
  pub offset : ℕ  -- up to which it is rebuilt: of a recovering member, what this has passed and is not marked is not missing
  pub stored_offset : ℕ  -- the recovery_offset on its device, as far as the mirror knows
