-- Neighbouring runs of a set are united, so that it takes fewer entries of a log (this project's own).
use Rattle.std.specs.Prelude.{◌≡◌, ℕ, ◌+◌, ◌^◌, ◌<◌, ◌≤◌, ◌⊎◌, List}
use Rattle.md_badblocks.specs.declared.run.Run.{Run}
use Rattle.md_badblocks.specs.Runs.{IsBad, IsCanonical, entries_needed}

-- The sector lies between two of a set, and at most so many lie between these.
pub record LiesInGap (gap : ℕ) (set : List Run) (sector : ℕ) : Type 0 where
  pub before : ℕ
  pub after : ℕ
  pub before_is : IsBad set before
  pub after_is : IsBad set after
  pub above : before < sector
  pub below : sector < after
  pub close : after ≤ before + gap + 1

-- The sector lies between two of those for which this holds, and between these lie fewer than so many, or just as many, and the second one is before `to`.
pub record LiesInGapTo (gap to : ℕ) (In : ℕ → Type 0) (sector : ℕ) : Type 0 where
  pub before : ℕ
  pub after : ℕ
  pub before_is : In before
  pub after_is : In after
  pub above : before < sector
  pub below : sector < after
  pub close : (after ≤ before + gap) ⊎ ((after ≤ before + gap + 1) × (after < to))

-- A list has all sectors of a set and none of others.
pub record HasSet (set others list : List Run) : Type 0 where
  pub canonical : IsCanonical list
  pub all : (s : ℕ) → IsBad set s → IsBad list s
  pub beside : (s : ℕ) → IsBad list s → IsBad others s → ⊥

-- Besides a set a list has only sectors that lie between two of the set that are close.
abbrev pub IsOfGaps : (gap to : ℕ) → (set list : List Run) → Type 0
IsOfGaps gap to set list = (s : ℕ) → IsBad list s → IsBad set s ⊎ LiesInGapTo gap to (IsBad set) s

-- A list of a set and of such sectors besides, and no other one takes fewer entries. Where gaps of 510 sectors may be closed wherever they are, no list that has
-- the set does: an entry names at most 512.
pub record IsUnited (gap to : ℕ) (set others all : List Run) : Type 0 where
  pub has : HasSet set others all
  pub more : IsOfGaps gap to set all
  pub fewest : (other : List Run) → HasSet set others other → IsOfGaps gap to set other ⊎ ((gap ≡ 510) × (to ≡ 2 ^ 54)) → entries_needed all ≤ entries_needed other

-- A run that begins at `start` is united with the one before it, which ends at `end` and whose last entry begins at `entry`: it begins in that entry, the gap
-- is closed, and no other sector lies in it.
pub record Unites (others : List Run) (entry end start gap to : ℕ) : Type 0 where
  pub some : 0 < end
  pub near : start < entry + 512
  pub narrow : (start < end + gap) ⊎ ((start ≡ end + gap) × (start < to))
  pub clear : (s : ℕ) → IsBad others s → end ≤ s → s < start → ⊥

-- Why it is not: there is none before it, or one of these does not hold.
abbrev pub Parts : (others : List Run) (entry end start gap to : ℕ) → Type 0
Parts others entry end start gap to =
    (end ≡ 0) ⊎ ((entry + 512 ≤ start)
    ⊎ (((end + gap ≤ start) × (start ≡ end + gap → to ≤ start))
    ⊎ ((s : ℕ) × IsBad others s × (end ≤ s) × (s < start))))
