-- Chunks, and the sources that may give them.
use Rattle.std.specs.Prelude.{ℕ, ◌<◌, ◌==◌, not, List, [], ◌∷◌, map, filter, if◌then◌else◌}
use Rattle.std.specs.List.{AllPairs}
use Rattle.md_cert.specs.declared.table.Row.{Row}

-- each row's chunk is below those of all later rows
pub record IsTable (rows : List Row) : Type 0 where
  pub rising : AllPairs (λ a b. a.chunk < b.chunk) rows

abbrev pub chunks_of_rows : List Row → List ℕ
chunks_of_rows rows = map (λ r. r.chunk) rows

-- the mask of a chunk, 0 where the table does not have it
abbrev pub mask_of_chunk : List Row → ℕ → ℕ
mask_of_chunk [] chunk = 0
mask_of_chunk (r ∷ rest) chunk = if r.chunk == chunk then r.mask else mask_of_chunk rest chunk

-- the chunks that some source may give
abbrev pub planned_chunks : List Row → List ℕ
planned_chunks rows = chunks_of_rows (filter (λ r. not (r.mask == 0)) rows)

-- the chunks that no source may give
abbrev pub orphans_of : List Row → List ℕ
orphans_of rows = chunks_of_rows (filter (λ r. r.mask == 0) rows)
