-- What a device that left says of the array that it comes back to (super_1_validate and hot_add_disk in the kernel's md driver let it come
-- back by events_cleared; these further conditions are this project's own).
use Rattle.std.specs.Prelude.{◌≡◌, ℕ, ◌<◌, ◌/◌, ◌==◌, Bool, false, not, ◌&&◌, if◌then◌else◌, List, length}
use Rattle.std.specs.List.{list_any, range_with_len}
use Rattle.md_super.specs.declared.superblock.Superblock.{Superblock}
use Rattle.md_bitmap.specs.declared.header.BitmapHeader.{BitmapHeader}
use Rattle.md_assembly.specs.States.{has_recovery_offset, role_in}
use Rattle.md_kept_members.specs.TakingBack.{own_role}
use Rattle.md_kept_members.specs.View.{MemberView}
use Rattle.md_kept_members.specs.Membership.Numbers.{has_number}

-- A device is of the array with this superblock, and is cut into chunks of so many sectors, as the array is.
pub record IsOfArray (shared : Superblock) (width : ℕ) (v : Superblock) (h : BitmapHeader) : Type 0 where
  pub set_uuid : v.set_uuid ≡ shared.set_uuid
  pub size : v.size ≡ shared.size
  pub raid_disks : v.raid_disks ≡ shared.raid_disks
  pub chunks : h.chunksize / 512 ≡ width

-- No member has its number, it was not being rebuilt, and its own superblock gives it a role.
pub record LeftItsRole (shared : Superblock) (members : List MemberView) (v : Superblock) : Type 0 where
  pub absent : has_number members v.dev_number ≡ false
  pub whole : has_recovery_offset v ≡ false
  pub has_role : own_role v < shared.raid_disks

-- ---- whether it may have been used without the array, or the array without it
-- A device came in after a superblock was written: it has a role, and had another one or none, or it has failed, and was in no use. (By its
-- entry in the roles, and the one in that superblock. 0xffff is the entry of a spare; the kernel writes it of a device that left, too.)
abbrev pub came_since : (entry before : ℕ) → Bool
came_since entry before =
    if entry == 0xfffe then before == 0xffff else
    not (entry == 0xffff) && not (entry == before)

-- By the array's superblock some device came in after this one was written.
abbrev pub has_newcomer : Superblock → Superblock → Bool
has_newcomer shared v = list_any (λ d. came_since (role_in shared d) (role_in v d)) (range_with_len 0 (length shared.roles))
