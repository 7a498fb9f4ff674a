-- Members that were used without those that are in sync now: two halves of a mirror that each went their way. When that is said is
-- this project's own.
use Rattle.std.specs.Prelude.{◌≡◌, ℕ, ◌<◌, ◌==◌, ◌&&◌, ◌||◌, not, nat_le, nat_lt, Bool, true, false, List, slice_get, Some, take}
use Rattle.std.specs.List.{list_all, list_any}
use Rattle.md_super.specs.declared.superblock.Superblock.{Superblock}
use Rattle.md_assembly.specs.declared.state.MemberState.{MemberState}
use Rattle.md_assembly.specs.declared.state.MemberState.TheVariants.{InSync, Recovering, Stale, Spare, Faulty}
use Rattle.md_assembly.specs.States.{bears, is_in_sync, role_in, state_of}
use Rattle.md_kept_members.specs.View.{MemberView}
use Rattle.md_state.specs.View.{ArrayView}

-- a device of a lower number has the role by the superblock
abbrev pub has_role_below : Superblock → ℕ → ℕ → Bool
has_role_below v number role = list_any (λ other. other == role) (take number v.roles)

-- By the superblock the device with this number, which is in sync in this role, was not in use any more. It had failed: 0xfffe. Or
-- it has another role, so that this number is another disk's by it. Or it has no role, which the kernel writes of a device that is
-- missing, and no device of a lower number has its role: of one that came into the role later the superblock still has the device
-- that had it before. A device that comes later has a higher number,
-- but where it gets that of one that left (bind_rdev_to_array in the kernel's md driver).
abbrev pub was_without : Superblock → ℕ → ℕ → Bool
was_without v number role =
    role_in v number == 0xfffe
    || nat_lt (role_in v number) v.raid_disks && not (role_in v number == role)
    || nat_le v.raid_disks (role_in v number) && not (has_role_below v number role)

-- a member of this number and state is not in sync, or was not in use any more by the superblock
abbrev pub is_left_by : Superblock → ℕ → MemberState → Bool
is_left_by v number (InSync role) = was_without v number role
is_left_by v number (Recovering role) = true
is_left_by v number (Stale role) = true
is_left_by v number Spare = true
is_left_by v number Faulty = true

-- the superblock has its own device in a role of the array
abbrev pub is_active_by_own : Superblock → Bool
is_active_by_own v = nat_lt (role_in v v.dev_number) v.raid_disks

-- By this superblock its own device is in a role, and no member that is in sync was in use any more: what was written since then was
-- written to it, and not to them.
abbrev pub is_apart : List MemberView → Superblock → Bool
is_apart members v =
    is_active_by_own v && list_all (λ other. is_left_by v other.superblock.dev_number other.state) members

-- The array has the device in no role any more, or in another than its own superblock does. One that it has in its role, with fewer
-- events, is an older copy of that device: what was written to it then is in the array.
abbrev pub is_out : MemberState → Superblock → Bool
is_out (InSync role) v = false
is_out (Recovering role) v = false
is_out (Stale role) v = not (bears v role)
is_out Spare v = true
is_out Faulty v = true

-- the array goes on without the member, which was used without the members that are in sync
abbrev pub is_parted : List MemberView → MemberView → Bool
is_parted members m = is_out m.state m.superblock && is_apart members m.superblock

-- a device that is no member is of the array, which goes on without it, and was used without the members that are in sync
pub record WasApart (a : ArrayView) (own : Superblock) : Type 0 where
  pub set : own.set_uuid ≡ a.shared.set_uuid
  pub out : is_out (state_of a.shared own) own ≡ true
  pub apart : is_apart a.members own ≡ true

-- none of the first n members is in sync
abbrev pub NoneInSync : List MemberView → ℕ → Type 0
NoneInSync members n =
    (i : ℕ) (m : MemberView) → i < n → slice_get members i ≡ Some m → is_in_sync m.state ≡ false

-- member k is in sync, and none before it
pub record IsFirstInSync (members : List MemberView) (k : ℕ) : Type 0 where
  pub member : MemberView
  pub listed : slice_get members k ≡ Some member
  pub in_sync : is_in_sync member.state ≡ true
  pub first : NoneInSync members k
