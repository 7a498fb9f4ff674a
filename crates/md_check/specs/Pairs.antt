-- Each two members in sync of an array.
use Rattle.std.specs.Prelude.{ℕ, Bool, false, ◌&&◌, nat_lt, if◌then◌else◌, List, [], ◌∷◌, length, map, Option, Some, None, slice_get}
use Rattle.std.specs.List.{flat_map, range_with_len}
use Rattle.md_assembly.specs.States.{is_in_sync}
use Rattle.md_kept_members.specs.View.{MemberView}
use Rattle.md_state.specs.View.{ArrayView}
use Rattle.md_collect.specs.declared.found.Pair.{Pair}

-- there is a member, and it is in sync
abbrev pub is_one_in_sync : Option MemberView → Bool
is_one_in_sync (Some m) = is_in_sync m.state
is_one_in_sync None = false

abbrev pub are_in_sync : ArrayView → ℕ → ℕ → Bool
are_in_sync a one other =
    is_one_in_sync (slice_get a.members one) && is_one_in_sync (slice_get a.members other)

-- these two, where the first has the lower index and both are in sync
abbrev pub pair_of : ArrayView → ℕ → ℕ → List (ℕ × ℕ)
pair_of a one other = if nat_lt one other && are_in_sync a one other then (one, other) ∷ [] else []

-- the pairs of a member and one of the first n behind it
abbrev pub pairs_with : ArrayView → ℕ → ℕ → List (ℕ × ℕ)
pairs_with a n one = flat_map (pair_of a one) (range_with_len 0 n)

-- each two members in sync by their indices, the lower one first, rising
abbrev pub pairs_in_sync : ArrayView → List (ℕ × ℕ)
pairs_in_sync a = flat_map (pairs_with a (length a.members)) (range_with_len 0 (length a.members))

-- the members of pairs
abbrev pub pair_names : List Pair → List (ℕ × ℕ)
pair_names = map (λ pair. (pair.one, pair.other))
