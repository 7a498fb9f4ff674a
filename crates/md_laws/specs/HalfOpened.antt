-- What an interrupted open leaves: a crash came within it, or one of its writes failed. Its own contract says what that may be.
use Rattle.std.specs.Prelude.{◌≡◌, ◌⊎◌, ℕ, List, map, slice_get, Some}
use Rattle.md_kept_members.specs.View.{MemberView}
use Rattle.md_kept_members.specs.OnDevices.Storing.{sector_from_super}
use Rattle.md_state.specs.View.{Disk, ArrayView}
use Rattle.md_array.specs.Open.Marks.{AreMarksOnDisks, EndsAtMember}
use Rattle.md_array.specs.Worlds.{header_on}
use Rattle.md_laws.specs.CrashesWithin.{MayAllBeLeft}

-- the header of the bitmap is as it was
abbrev pub IsHeaderKept : MemberView → List ℕ → List ℕ → Type 0
IsHeaderKept m old left = header_on left (sector_from_super m.superblock.bitmap_offset) ≡ header_on old (sector_from_super m.superblock.bitmap_offset)

-- What `open` makes of devices once they make this array: marks are stored on each member that needs them, or storing them failed
-- on one. What is left there has the header that it had: a premise on a failed write of the bitmap's first sector.
pub record FailsOnMember (a : ArrayView) (before after : List Disk) (left : List (List ℕ)) : Type 0 where
  pub on : ℕ
  pub ends : EndsAtMember a before after on
  pub header : (d : Disk) (c : List ℕ) → slice_get before on ≡ Some d → slice_get left on ≡ Some c → IsHeaderKept ends.member d.content c

-- left by a crash within it, or at its end
pub record IsHalfOpened (a : ArrayView) (before : List Disk) (left : List (List ℕ)) : Type 0 where
  pub after : List Disk
  pub opens : AreMarksOnDisks before after a ⊎ FailsOnMember a before after left
  pub when : MayAllBeLeft before after left ⊎ (left ≡ map (λ d. d.content) after)
