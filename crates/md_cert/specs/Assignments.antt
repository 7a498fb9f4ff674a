-- Assignments of chunks to sources, and the fewest rounds that any of them has.
use Rattle.std.specs.Prelude.{◌≡◌, ◌≢◌, ◌⊎◌, ℕ, ◌*◌, ◌<◌, ◌≤◌, ◌==◌, Bool, true, List, length, count_by, All}
use Rattle.std.specs.List.{list_any, AllPairs}
use Rattle.md_cert.specs.declared.table.Row.{Row}
use Rattle.md_cert.specs.Sources.{has, count_sources}
use Rattle.md_cert.specs.Tables.{mask_of_chunk, planned_chunks}

-- each chunk that some source may give is given by such a source
abbrev pub IsAssignment : List Row → (ℕ → ℕ) → Type 0
IsAssignment table source =
    (chunk : ℕ) → mask_of_chunk table chunk ≢ 0 → has (mask_of_chunk table chunk) (source chunk) ≡ true

-- how many chunks a source gives
abbrev pub load : List Row → (ℕ → ℕ) → ℕ → ℕ
load table source s = count_by (λ chunk. source chunk == s) (planned_chunks table)

-- the greatest number of chunks that a source gives, 0 where there are none
pub record HasRounds (table : List Row) (source : ℕ → ℕ) (n : ℕ) : Type 0 where
  pub most : (s : ℕ) → load table source s ≤ n
  pub reached : (n ≡ 0) ⊎ ((s : ℕ) × (load table source s ≡ n))

-- some assignment has n rounds, and none has fewer
pub record Least (table : List Row) (n : ℕ) : Type 0 where
  pub source : ℕ → ℕ
  pub assigned : IsAssignment table source
  pub rounds : HasRounds table source n
  pub least : (other : ℕ → ℕ) (m : ℕ) → IsAssignment table other → HasRounds table other m → n ≤ m

-- the source may give some chunk of the set
abbrev pub gives_any : List Row → List ℕ → ℕ → Bool
gives_any table chunks s = list_any (λ chunk. has (mask_of_chunk table chunk) s) chunks

-- a set of chunks that has too few sources for n rounds
pub record IsShort (table : List Row) (chunks : List ℕ) (n : ℕ) : Type 0 where
  pub rising : AllPairs (λ a b. a < b) chunks
  pub given : All (λ chunk. mask_of_chunk table chunk ≢ 0) chunks
  pub more : n * count_sources (gives_any table chunks) < length chunks
