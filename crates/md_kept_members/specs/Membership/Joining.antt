-- What the array's superblock becomes as a device comes in (bind_rdev_to_array and hot_add_disk in the kernel's md driver; that the count
-- rises at once, and which entries are made, are this project's own).
use Rattle.std.specs.Prelude.{ℕ, ◌+◌, cond, eqb, nat_lt, max, List, length, map}
use Rattle.std.specs.List.{range_with_len}
use Rattle.md_super.specs.declared.superblock.Superblock.{Superblock}
use Rattle.md_kept_members.specs.View.{MemberView}
use Rattle.md_kept_members.specs.Membership.Numbers.{role_at_rise}

-- the role of each number, once the device with this one has come in with this role. As at each rise of the count, that of an
-- absent device is a failed one's.
abbrev pub role_after : Superblock → List MemberView → ℕ → ℕ → ℕ → ℕ
role_after shared members number role d = cond (eqb d number) role (role_at_rise shared members d)

-- The entries reach to the number, if a superblock has so many: those in between are of no device.
abbrev pub entries_with : Superblock → ℕ → ℕ
entries_with shared number = cond (nat_lt number 1920) (max (length shared.roles) (number + 1)) (length shared.roles)

abbrev pub joined_roles : Superblock → List MemberView → ℕ → ℕ → List ℕ
joined_roles shared members number role = map (role_after shared members number role) (range_with_len 0 (entries_with shared number))

-- the array's fields then: the count has risen
abbrev pub joined_shared : Superblock → List MemberView → ℕ → ℕ → Superblock
joined_shared shared members number role = record shared { events = shared.events + 1; roles = joined_roles shared members number role }
