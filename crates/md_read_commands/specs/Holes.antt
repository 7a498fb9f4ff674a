-- The gaps of one piece or request, before they are noted beside earlier ones.
use Rattle.std.specs.Prelude.{◌≡◌, ℕ, ◌+◌, ◌≤◌, min, vec_capacity, vec_len}
use Rattle.md_streams.specs.declared.gaps.Gaps.{Gaps}
use Rattle.md_read_commands.specs.declared.holes.Holes.{Holes}

abbrev pub gaps_of : Holes → Gaps
gaps_of holes = record { missing = holes.missing.items; others = holes.others.items }

-- for so many sectors there is room, whichever kind they are of
abbrev pub capacity_of : Holes → ℕ
capacity_of holes = min (vec_capacity holes.missing) (vec_capacity holes.others)

abbrev pub HasSameRoom : Holes → Holes → Type 0
HasSameRoom old new =
    (vec_capacity new.missing ≡ vec_capacity old.missing)
    × (vec_capacity new.others ≡ vec_capacity old.others)

-- so many more may be added
abbrev pub HasRoomForMore : ℕ → Holes → Type 0
HasRoomForMore sectors holes =
    (vec_len holes.missing + sectors ≤ vec_capacity holes.missing)
    × (vec_len holes.others + sectors ≤ vec_capacity holes.others)

-- so many were added, or fewer
abbrev pub HasFewMore : ℕ → Holes → Holes → Type 0
HasFewMore sectors old new =
    (vec_len new.missing ≤ vec_len old.missing + sectors)
    × (vec_len new.others ≤ vec_len old.others + sectors)
