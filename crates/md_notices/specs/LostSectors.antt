-- Sectors of an array that no member in sync gives, by their lists.
use Rattle.std.specs.Prelude.{ℕ, ◌+◌, ◌||◌, not, Bool, List, length, slice_get}
use Rattle.std.specs.List.{filter, list_all, range_with_len}
use Rattle.md_assembly.specs.States.{is_in_sync}
use Rattle.md_kept_members.specs.SectorLists.{in_runs}
use Rattle.md_kept_members.specs.View.{MemberView}
use Rattle.md_state.specs.View.{ArrayView}
use Rattle.md_notices.specs.declared.lost_sectors.Lost.{Lost}

-- the member lists the sector, or is not in sync
abbrev pub lists_if_in_sync : ℕ → MemberView → Bool
lists_if_in_sync s m = not (is_in_sync m.state) || in_runs m.bad (m.superblock.data_offset + s)

-- each member in sync lists the sector
abbrev pub is_lost : List MemberView → ℕ → Bool
is_lost members s = list_all (lists_if_in_sync s) members

-- of the first n sectors those that are lost, rising
abbrev pub lost_below : List MemberView → ℕ → List ℕ
lost_below members n = filter (is_lost members) (range_with_len 0 n)

-- how many there are, and the first of them
abbrev pub lost_before : List MemberView → ℕ → Lost
lost_before members n = record {
  count = length (lost_below members n);
  first = slice_get (lost_below members n) 0;
}

-- of all sectors of the array
abbrev pub lost_in : ArrayView → Lost
lost_in a = lost_before a.members a.chunks.size
