-- The report of a check, as text, in a form of this project's own.
use Rattle.std.specs.Prelude.{ℕ, ◌+◌, ◌-◌, ◌*◌, if◌then◌else◌, List, [], ◌++◌, codes, decimal, min}
use Rattle.std.specs.List.{flat_map, range_with_len}
use Rattle.md_bitmap.specs.declared.chunks.Chunks.{Chunks}
use Rattle.md_bitmap.specs.Marks.{count_set, is_set}
use Rattle.md_collect.specs.declared.found.Comparison.{Comparison}
use Rattle.md_collect.specs.declared.found.Pair.{Pair}
use Rattle.md_examine.specs.Lines.{right_aligned}

-- in how many chunks members in sync differ
unfoldable pub check_text : ℕ → List ℕ
check_text mismatched = (codes "mismatched chunks: " ++ decimal mismatched) ++ codes "\n"

-- two members by their indices
unfoldable pub pair_text : ℕ → ℕ → List ℕ
pair_text one other = (codes " " ++ decimal one) ++ (codes "!=" ++ decimal other)

-- the members of a pair, where they differ in chunk c
abbrev pub pair_in : ℕ → Pair → List ℕ
pair_in c pair = if is_set pair.chunks.bytes c then pair_text pair.one pair.other else []

-- the sectors of the array from one on and before another: the first, which ends with column 12, and how many; then each
-- pair that differs in chunk c
unfoldable pub chunk_line : ℕ → ℕ → List Pair → ℕ → List ℕ
chunk_line start end pairs c =
    right_aligned 12 (decimal start) ++ (codes " for " ++ decimal (end - start)) ++ codes " sectors, members"
    ++ flat_map (pair_in c) pairs ++ codes "\n"

-- a line for a chunk in which members differ
abbrev pub chunk_text : Chunks → Comparison → ℕ → List ℕ
chunk_text chunks found c =
    if is_set found.chunks.bytes c
    then chunk_line (c * chunks.sectors) (min ((c + 1) * chunks.sectors) chunks.size) found.pairs.items c
    else []

-- a line for each chunk in which members in sync differ, rising, and how many there are
unfoldable pub list_text : Chunks → Comparison → List ℕ
list_text chunks found =
    flat_map (chunk_text chunks found) (range_with_len 0 found.chunks.chunks)
    ++ check_text (count_set found.chunks.bytes found.chunks.chunks)
