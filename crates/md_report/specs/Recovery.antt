-- How far recovering members are rebuilt, and the line of the report in detail that says so, in a form of this project's own.
use Rattle.std.specs.Prelude.{ℕ, ◌+◌, ◌-◌, ◌*◌, ◌/◌, max, min, Bool, ◌&&◌, if◌then◌else◌, Option, Some, None, List, [], ◌∷◌, ◌++◌, codes, decimal}
use Rattle.std.specs.List.{count_by, flat_map, range_with_len}
use Rattle.md_model.specs.Sectors.{is_passed}
use Rattle.md_assembly.specs.States.{is_recovering}
use Rattle.md_bitmap.specs.Marks.{is_set}
use Rattle.md_kept_members.specs.View.{MemberView}
use Rattle.md_state.specs.Missing.{is_missing}
use Rattle.md_state.specs.View.{ArrayView, geometry_of}
use Rattle.md_report.specs.declared.recovery.Recovery.{Recovery}

-- how many of the first n chunks a member lacks
abbrev pub lacked_to : ArrayView → MemberView → ℕ → ℕ
lacked_to a m n = count_by (is_missing a m) (range_with_len 0 n)

-- The offset that its superblock says. One past the array's size counts as the size.
abbrev pub offset_said : ArrayView → MemberView → ℕ
offset_said a m = min m.superblock.recovery_offset a.chunks.size

-- a chunk is marked, and none of its sectors is at this one or past it
abbrev pub is_marked_before : ArrayView → ℕ → ℕ → Bool
is_marked_before a sector chunk = is_set a.marks.bytes chunk && is_passed (geometry_of a) sector chunk

-- how many of the first n chunks are so
abbrev pub marked_to : ArrayView → ℕ → ℕ → ℕ
marked_to a sector n = count_by (is_marked_before a sector) (range_with_len 0 n)

-- how far the recovering member with this index is
abbrev pub recovery_of : ArrayView → ℕ → MemberView → Recovery
recovery_of a k m = record {
  member = k;
  offset = offset_said a m;
  chunks = a.marks.chunks;
  missing = lacked_to a m a.marks.chunks;
  marked = marked_to a (offset_said a m) a.marks.chunks;
}

abbrev pub recovery_if : ArrayView → ℕ → MemberView → Option Recovery
recovery_if a k m = if is_recovering m.state then Some (recovery_of a k m) else None

-- none, or one
abbrev pub those : Option Recovery → List Recovery
those None = []
those (Some recovery) = recovery ∷ []

-- of each recovering member of these, which are counted from an index on
unfoldable pub recoveries : ArrayView → ℕ → List MemberView → List Recovery
recoveries a index [] = []
recoveries a index (m ∷ ms) = those (recovery_if a index m) ++ recoveries a (index + 1) ms

-- so many parts of a whole in per cent, rounded down
abbrev pub percent : ℕ → ℕ → ℕ
percent part whole = part * 100 / max whole 1

-- how many of so many chunks a member has that lacks so many
unfoldable pub share_text : ℕ → ℕ → List ℕ
share_text chunks missing =
    (codes " has " ++ decimal (chunks - missing)) ++ (codes " of " ++ decimal chunks)
    ++ (codes " chunks (" ++ decimal (percent (chunks - missing) chunks)) ++ codes " %)"

-- the line of a member
unfoldable pub recovery_line : Recovery → List ℕ
recovery_line r =
    (codes "Recovering      : member " ++ decimal r.member) ++ share_text r.chunks r.missing
    ++ (codes ", all before sector " ++ decimal r.offset) ++ (codes " but " ++ decimal r.marked) ++ codes " marked\n"

-- a line for each
abbrev pub recovery_lines : ArrayView → List ℕ
recovery_lines a = flat_map recovery_line (recoveries a 0 a.members)
