-- A first opening that was interrupted: of any devices, as those of a new array, of which it would have begun a life.
use Rattle.std.specs.Prelude.{◌≡◌, ℕ, List, slice_get, Some}
use Rattle.md_kept_members.specs.View.{MemberView}
use Rattle.md_state.specs.Members.{IsMember}
use Rattle.md_state.specs.View.{Disk, MirrorView}
use Rattle.md_array.specs.Worlds.{AreHonest}
use Rattle.md_laws.specs.HalfOpened.{IsHalfOpened}
use Rattle.md_laws.specs.Left.{contents_of}
use Rattle.md_laws.specs.Lives.{AreAllLeft, AreFoundAgain, IsAsLeft}
use Rattle.md_laws.specs.Runs.{IsStart, opened_as}

-- The opening would have given this mirror, from devices whose stored marks covered what they differ in. A crash came within it, or a write
-- of it failed. What it left of each device is as the whole opening leaves it, but for the marks of a bitmap that was not accepted.
abbrev pub LeavesAsOpened : Type 0
LeavesAsOpened =
    (before : List Disk) (m : MirrorView) → IsStart before m → (left : List (List ℕ)) → IsHalfOpened m.array before left
    → (k : ℕ) (n : MemberView) → IsMember m.array k n → (d : Disk) → slice_get m.disks k ≡ Some d → (c : List ℕ) → slice_get left k ≡ Some c
    → IsAsLeft m.array n d.content c

-- The devices of a mirror are found again, all of them, as after a crash right after its opening.
pub record AreAsOpened (m : MirrorView) (found : List Disk) : Type 0 where
  pub devices : AreFoundAgain (opened_as m) found
  pub left : devices.left ≡ m.disks
  pub all : AreAllLeft (opened_as m) found devices

-- What an interrupted first opening left may be opened as after a crash right after a whole one: all that the
-- laws over lives say of the next opening is said of this one.
abbrev pub IsFoundAsOpened : Type 0
IsFoundAsOpened =
    (before : List Disk) (m : MirrorView) → IsStart before m → (left : List (List ℕ)) → IsHalfOpened m.array before left
    → (found : List Disk) → AreHonest found → contents_of found ≡ left → AreAsOpened m found
