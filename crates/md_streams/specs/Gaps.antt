-- Which sectors were not given in the way in which they were read: those in whose place zeros stand, and those that are another member's.
use Rattle.std.specs.List.{All}
use Rattle.std.specs.Prelude.{◌^◌, ◌≡◌, ◌⊎◌, ◌↔◌, ℕ, ◌+◌, ◌<◌, ◌≤◌, List, []}
use Rattle.md_badblocks.specs.declared.run.Run.{Run}
use Rattle.md_badblocks.specs.Runs.{IsBad}
use Rattle.md_streams.specs.declared.gaps.Gaps.{Gaps}

abbrev pub no_gaps : Gaps
no_gaps = record { missing = []; others = [] }

abbrev pub HasNoGaps : Gaps → Type 0
HasNoGaps gaps = (gaps.missing ≡ []) × (gaps.others ≡ [])

-- the sector is one of them
abbrev pub IsGap : Gaps → ℕ → Type 0
IsGap gaps s = IsBad gaps.missing s ⊎ IsBad gaps.others s

-- the sector is a gap in both, and of the same kind, or in neither
abbrev pub IsSameAt : Gaps → Gaps → ℕ → Type 0
IsSameAt one other s =
    (IsBad one.missing s ↔ IsBad other.missing s) × (IsBad one.others s ↔ IsBad other.others s)

-- if the sector is a gap in the first, it is one in the second, and of the same kind
abbrev pub IsKeptAt : Gaps → Gaps → ℕ → Type 0
IsKeptAt one other s =
    (IsBad one.missing s → IsBad other.missing s) × (IsBad one.others s → IsBad other.others s)

-- ---- sets of sectors
-- each of these runs has a sector, and all of them are sectors that a set may have
abbrev pub AreFit : List Run → Type 0
AreFit runs = All (λ run. (0 < run.len) × (run.start + run.len ≤ 2 ^ 54)) runs

-- a set has the sectors of two
abbrev pub HasBoth : List Run → List Run → List Run → Type 0
HasBoth one other both = (s : ℕ) → IsBad both s ↔ (IsBad one s ⊎ IsBad other s)

-- a set to which sectors of another were added, all of them or not
abbrev pub HasSomeOf : List Run → List Run → List Run → Type 0
HasSomeOf was more now =
    ((s : ℕ) → IsBad was s → IsBad now s) × ((s : ℕ) → IsBad now s → IsBad was s ⊎ IsBad more s)

-- the runs of both kinds are fit
abbrev pub AreFitGaps : Gaps → Type 0
AreFitGaps gaps = AreFit gaps.missing × AreFit gaps.others

abbrev pub HasBothGaps : Gaps → Gaps → Gaps → Type 0
HasBothGaps one other both =
    HasBoth one.missing other.missing both.missing × HasBoth one.others other.others both.others

abbrev pub HasSomeGapsOf : Gaps → Gaps → Gaps → Type 0
HasSomeGapsOf was more now =
    HasSomeOf was.missing more.missing now.missing × HasSomeOf was.others more.others now.others

-- each of these sectors was told, with its kind
abbrev pub AreTold : (ℕ → Type 0) → (ℕ → Type 0) → Gaps → Type 0
AreTold Misses Takes gaps =
    ((s : ℕ) → IsBad gaps.missing s → Misses s) × ((s : ℕ) → IsBad gaps.others s → Takes s)
