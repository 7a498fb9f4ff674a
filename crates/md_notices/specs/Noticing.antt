-- What is noticed of all members and roles of an array, by their places.
use Rattle.std.specs.Prelude.{◌≡◌, ◌↔◌, IsTrue, ℕ, ◌-◌, ◌<◌, ◌≤◌, ◌==◌, ◌&&◌, not, nat_lt, Bool, false, List, length, map, Option, Some, None, MatchOption, option_map, slice_get, get_or, count_by, if◌then◌else◌}
use Rattle.std.specs.List.{range_with_len}
use Rattle.md_assembly.specs.declared.state.MemberState.{MemberState}
use Rattle.md_assembly.specs.States.{is_in_sync}
use Rattle.md_kept_members.specs.Members.{NeedsMarks}
use Rattle.md_kept_members.specs.View.{MemberView}
use Rattle.md_state.specs.View.{ArrayView}
use Rattle.md_notices.specs.declared.noticing.Asked.{Asked}
use Rattle.md_notices.specs.Dropping.{dropped_out}
use Rattle.md_notices.specs.Parting.{is_parted}
use Rattle.md_notices.specs.Unnamed.{IsFirstUnnamed, NoneUnnamed}

-- what is so of the member in a place, where there is one
abbrev pub so_of : (MemberView → Bool) → Option MemberView → Bool
so_of holds None = false
so_of holds (Some m) = holds m

-- the member in this place was used without those in sync
abbrev pub is_parted_at : List MemberView → ℕ → Bool
is_parted_at members k = so_of (is_parted members) (slice_get members k)

-- the bitmap of the member in this place, which is in sync, did not tell of the array as it was opened: marks were stored on it
pub record WasMarkedAtOpening (members : List MemberView) (k : ℕ) (marked : Bool) : Type 0 where
  pub there : (m : MemberView) → slice_get members k ≡ Some m → IsTrue marked ↔ NeedsMarks m
  pub past : length members ≤ k → marked ≡ false

-- of the places of 64 members: an array has no more
abbrev pub WereMarkedAtOpening : List MemberView → List Bool → Type 0
WereMarkedAtOpening members marked = (k : ℕ) → k < 64 → WasMarkedAtOpening members k (get_or marked k false)

-- the state of the member in this place
abbrev pub state_at : List MemberView → ℕ → Option MemberState
state_at members k = option_map (λ (m : MemberView). m.state) (slice_get members k)

abbrev pub all_parted : List MemberView → List Bool
all_parted members = map (is_parted_at members) (range_with_len 0 64)

abbrev pub all_states : List MemberView → List (Option MemberState)
all_states members = map (state_at members) (range_with_len 0 64)

abbrev pub is_place : Option ℕ → ℕ → Bool
is_place None k = false
is_place (Some j) k = j == k

-- the place after the command of the member that was in this place before it
abbrev pub place_after : Option ℕ → ℕ → Option ℕ
place_after None k = Some k
place_after (Some j) k = if j == k then None else if nat_lt j k then Some (k - 1) else Some k

-- the state of the member in this place, where there is one
abbrev pub state_there : List MemberView → Option ℕ → Option MemberState
state_there members None = None
state_there members (Some k) = state_at members k

abbrev pub dropped_from : Option MemberState → Option MemberState → Bool
dropped_from None after = false
dropped_from (Some before) None = false
dropped_from (Some before) (Some after) = dropped_out before after

-- The member in this place before a command dropped out in it, and not because it was asked for. `was` has the states before it, and
-- `members` are those after it.
abbrev pub is_dropped_at : List (Option MemberState) → List MemberView → Asked → ℕ → Bool
is_dropped_at was members asked k =
    not (is_place asked.failed k)
    && dropped_from (get_or was k None) (state_there members (place_after asked.left k))

abbrev pub all_dropped : List (Option MemberState) → List MemberView → Asked → List Bool
all_dropped was members asked = map (is_dropped_at was members asked) (range_with_len 0 64)

-- how many members are in sync
abbrev pub in_sync_count : List MemberView → ℕ
in_sync_count members = count_by (λ m. is_in_sync m.state) members

-- the first device in this role that is no member, where there is one
pub record IsUnnamedAt (a : ArrayView) (joining : Option ℕ) (role : ℕ) (device : Option ℕ) : Type 0 where
  pub within : role < a.shared.raid_disks
      → MatchOption device (NoneUnnamed a joining role (length a.shared.roles))
      (IsFirstUnnamed a joining role)
  pub past : a.shared.raid_disks ≤ role → device ≡ None

-- of all roles: an array has no more than 32
abbrev pub AreUnnamed : ArrayView → Option ℕ → List (Option ℕ) → Type 0
AreUnnamed a joining devices = (role : ℕ) → role < 32 → IsUnnamedAt a joining role (get_or devices role None)
