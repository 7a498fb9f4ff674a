-- A device comes in as the last member (bind_rdev_to_array and hot_add_disk in the kernel's md driver; that the count rises at once
-- is this project's own).
use Rattle.std.specs.Prelude.{ℕ, ◌≤◌, not, [], ◌∷◌, ◌++◌, length, map}
use Rattle.md_kept_members.specs.View.{MemberView}
use Rattle.md_kept_members.specs.Members.{made_due}
use Rattle.md_kept_members.specs.Membership.Joining.{joined_shared}
use Rattle.md_state.specs.Members.{is_degraded}
use Rattle.md_state.specs.Steps.Rise.{risen}
use Rattle.md_state.specs.View.{ArrayView}

-- an array has as many members as it may have, 64
abbrev pub HasMostMembers : ArrayView → Type 0
HasMostMembers a = 64 ≤ length a.members

-- The count rises, and the member is the last. It is not in sync, so that the array is as full as before.
abbrev pub joined : ArrayView → MemberView → ℕ → ArrayView
joined a m role =
    record (risen a (not (is_degraded a))) {
      shared = joined_shared a.shared a.members m.superblock.dev_number role;
      members = map made_due a.members ++ m ∷ [];
    }
