-- The object of a check: in how many chunks members in sync differ, and of each of these its sectors and the pairs of
-- members that differ there; then the members, and which of them were compared.
use Rattle.std.specs.Prelude.{ℕ, ◌+◌, ◌-◌, ◌*◌, Bool, false, List, [], ◌∷◌, length, Option, Some, None, codes, min, option_map, slice_get}
use Rattle.std.specs.List.{filter, range_with_len}
use Rattle.serde_json.specs.Data.{Data}
use Rattle.md_assembly.specs.declared.state.MemberState.{MemberState}
use Rattle.md_assembly.specs.States.{is_in_sync}
use Rattle.md_badblocks.specs.declared.run.Run.{Run}
use Rattle.md_bitmap.specs.declared.chunks.Chunks.{Chunks}
use Rattle.md_bitmap.specs.Marks.{Bitmap, count_set, is_set}
use Rattle.md_collect.specs.declared.found.Comparison.{Comparison}
use Rattle.md_collect.specs.declared.found.Pair.{Pair}
use Rattle.md_kept_members.specs.View.{MemberView}
use Rattle.md_state.specs.View.{ArrayView}
use Rattle.md_report.specs.AsJson.WholeArray.ArrayObjects.{members_fields}
use Rattle.md_report.specs.AsJson.WholeArray.StandingLists.{bad_value}
use Rattle.md_report.specs.AsJson.Objects.{Field, field, list_of, object_of, report_of, whole}

-- The sectors of a chunk in the array.
abbrev pub run_of_chunk : Chunks → ℕ → Run
run_of_chunk chunks c =
    let start = c * chunks.sectors in
    record { start = start; len = min ((c + 1) * chunks.sectors) chunks.size - start }

-- Two members by their indices.
abbrev pub pair_value : Pair → Data
pair_value pair = list_of whole (pair.one ∷ pair.other ∷ [])

-- The pairs that differ in chunk c.
abbrev pub pairs_in : ℕ → List Pair → List Pair
pairs_in c pairs = filter (λ pair. is_set pair.chunks.bytes c) pairs

-- How many sectors a chunk has, and the pairs that differ there.
unfoldable pub chunk_fields : Run → List Pair → ℕ → List Field
chunk_fields sectors pairs c =
    field (codes "sectors") (whole sectors.len)
    ∷ field (codes "pairs") (list_of pair_value (pairs_in c pairs))
    ∷ []

-- A chunk: its first sector, and then these fields.
abbrev pub chunk_object : Chunks → List Pair → ℕ → Data
chunk_object chunks pairs c =
    let sectors = run_of_chunk chunks c in
    object_of (field (codes "sector") (whole sectors.start) ∷ chunk_fields sectors pairs c)

-- The chunks of the set among the first n, rising.
abbrev pub chunks_to : Bitmap → ℕ → List ℕ
chunks_to set n = filter (is_set set.bytes) (range_with_len 0 n)

unfoldable pub count_fields : Bitmap → List Field
count_fields set = field (codes "mismatched_chunks") (whole (count_set set.bytes set.chunks)) ∷ []

-- whether there is a member in a place, and in sync
abbrev pub is_state_in_sync : Option MemberState → Bool
is_state_in_sync None = false
is_state_in_sync (Some state) = is_in_sync state

abbrev pub is_compared : List MemberView → ℕ → Bool
is_compared members k = is_state_in_sync (option_map (λ m. m.state) (slice_get members k))

-- The members in sync among the first n, by their indices, rising. They are compared with one another, and one alone with none.
abbrev pub compared_to : List MemberView → ℕ → List ℕ
compared_to members n = filter (is_compared members) (range_with_len 0 n)

unfoldable pub compared_fields : List MemberView → List Field
compared_fields members =
    field (codes "compared_members") (list_of whole (compared_to members (length members))) ∷ []

unfoldable pub chunk_list_fields : Chunks → Comparison → List Field
chunk_list_fields chunks found =
    let differing = chunks_to found.chunks found.chunks.chunks in
    field (codes "mismatches") (list_of (chunk_object chunks found.pairs.items) differing) ∷ []

-- what each member lists as bad: of those that were compared these sectors were left out
unfoldable pub listed_fields : List MemberView → List Field
listed_fields members = field (codes "bad_sectors") (list_of bad_value members) ∷ []

-- the whole object
abbrev pub check_object : Comparison → ArrayView → List (List ℕ) → Data
check_object found a images =
    report_of (codes "check")
    (count_fields found.chunks ∷ chunk_list_fields a.chunks found ∷ members_fields a images
    ∷ compared_fields a.members ∷ listed_fields a.members ∷ [])
