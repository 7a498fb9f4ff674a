-- How many sectors members list as bad, and which list more than before.
use Rattle.std.specs.Prelude.{◌≡◌, ℕ, nat_lt, List, map, Option, Some, None, sum_by, slice_get, get_or, if◌then◌else◌}
use Rattle.std.specs.List.{range_with_len}
use Rattle.md_badblocks.specs.declared.run.Run.{Run}
use Rattle.md_kept_members.specs.View.{MemberView}
use Rattle.md_notices.specs.declared.noticing.Asked.{Asked}
use Rattle.md_notices.specs.Noticing.{place_after}

abbrev pub sector_count : List Run → ℕ
sector_count runs = sum_by (λ run. run.len) runs

abbrev pub sectors_listed_by : Option MemberView → ℕ
sectors_listed_by None = 0
sectors_listed_by (Some m) = sector_count m.bad

-- how many sectors the member in this place lists, where there is one
abbrev pub sector_count_at : List MemberView → ℕ → ℕ
sector_count_at members k = sectors_listed_by (slice_get members k)

abbrev pub sector_count_there : List MemberView → Option ℕ → ℕ
sector_count_there members None = 0
sector_count_there members (Some k) = sector_count_at members k

-- of the places of 64 members: an array has no more
abbrev pub all_sector_counts : List MemberView → List ℕ
all_sector_counts members = map (sector_count_at members) (range_with_len 0 64)

abbrev pub if_more : ℕ → ℕ → Option ℕ
if_more before after = if nat_lt before after then Some after else None

-- How many sectors the member lists after a command that was in this place before it, where these are more than before. `was` has how
-- many it listed before, and `members` are those after it.
abbrev pub longer_list_at : List ℕ → List MemberView → Asked → ℕ → Option ℕ
longer_list_at was members asked k =
    if_more (get_or was k 0) (sector_count_there members (place_after asked.left k))

abbrev pub all_longer_lists : List ℕ → List MemberView → Asked → List (Option ℕ)
all_longer_lists was members asked = map (longer_list_at was members asked) (range_with_len 0 64)
