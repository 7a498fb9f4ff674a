-- The line on chunks that no member in sync gives whole.
use Rattle.std.specs.Prelude.{ℕ, ◌%◌, ◌/◌, ◌==◌, List, [], ◌++◌, Option, Some, None, codes, decimal, if◌then◌else◌}
use Rattle.md_notices.specs.declared.ungiven_chunks.UngivenChunks.{UngivenChunks}

-- So many sectors, in the first of these units of which they are whole ones: MiB, KiB, and sectors themselves.
abbrev pub in_units : ℕ → ℕ
in_units sectors =
    if sectors % 2048 == 0 then sectors / 2048 else if sectors % 2 == 0 then sectors / 2 else sectors

abbrev pub unit_text : ℕ → List ℕ
unit_text sectors =
    if sectors % 2048 == 0 then codes " MiB" else if sectors % 2 == 0 then codes " KiB" else codes " sectors"

unfoldable pub some_ungiven_text : ℕ → ℕ → ℕ → List ℕ
some_ungiven_text sectors count first =
    (codes "mdcli: chunks of " ++ decimal (in_units sectors)) ++ unit_text sectors
    ++ (codes " that no member in sync gives whole: " ++ decimal count)
    ++ (codes ", the first is " ++ decimal first)
    ++ codes "; a rebuild lists all of each as bad, and `rebuild --salvage` only the sectors that no member gives\n"

abbrev pub ungiven_chunks_if_some : UngivenChunks → Option ℕ → List ℕ
ungiven_chunks_if_some chunks None = []
ungiven_chunks_if_some chunks (Some first) = some_ungiven_text chunks.sectors chunks.count first

-- where there are some
abbrev pub ungiven_chunks_text : UngivenChunks → List ℕ
ungiven_chunks_text chunks = ungiven_chunks_if_some chunks chunks.first
