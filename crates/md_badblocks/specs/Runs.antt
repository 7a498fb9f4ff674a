-- Sets of sectors as lists of runs. A sector is 512 bytes.
use Rattle.std.specs.Prelude.{ℕ, ◌+◌, ◌/◌, ◌^◌, ◌<◌, ◌≤◌, ◌⊎◌, ⊤, List, [], ◌∷◌, sum_by}
use Rattle.md_badblocks.specs.declared.run.Run.{Run}

-- the sector is one of the run's
abbrev pub LiesIn : ℕ → Run → Type 0
LiesIn sector run = (run.start ≤ sector) × (sector < run.start + run.len)

-- the set that a list of runs stands for: the sector lies in one of them
abbrev pub IsBad : List Run → ℕ → Type 0
IsBad [] sector = ⊥
IsBad (run ∷ runs) sector = LiesIn sector run ⊎ IsBad runs sector

-- the runs rise from `low` on: none is empty, at least one sector lies between two, and all end by sector 2^54
abbrev pub RisesFrom : ℕ → List Run → Type 0
RisesFrom low [] = ⊤
RisesFrom low (run ∷ runs) =
    (low ≤ run.start) × (0 < run.len) × (run.start + run.len ≤ 2 ^ 54) × RisesFrom (run.start + run.len + 1) runs

-- the list is that of the maximal runs of its set
abbrev pub IsCanonical : List Run → Type 0
IsCanonical runs = RisesFrom 0 runs

-- how many entries of the log a run takes, at most 512 sectors each
abbrev pub entry_count : Run → ℕ
entry_count run = (run.len + 511) / 512

-- how many all of them take
abbrev pub entries_needed : List Run → ℕ
entries_needed runs = sum_by entry_count runs
