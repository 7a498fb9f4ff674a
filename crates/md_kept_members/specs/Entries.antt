-- How many entries a member's log takes for a list that is not made: its sectors are gone through from 0 on.
use Rattle.std.specs.Prelude.{◌≡◌, ◌↔◌, ℕ, ◌+◌, ◌-◌, ◌*◌, ◌/◌, ◌^◌, ◌<◌, ◌≤◌, min, List, sum_by}
use Rattle.md_bitmap.specs.declared.chunks.Chunks.{Chunks}
use Rattle.md_badblocks.specs.declared.run.Run.{Run}
use Rattle.md_badblocks.specs.Runs.{IsBad, IsCanonical, entries_needed}
use Rattle.md_kept_members.specs.declared.run_counter.RunCounter.{RunCounter}

-- There is such a list, and each takes so many entries.
pub record TakeEntries (IsSuch : List Run → Type 0) (count : ℕ) : Type 0 where
  pub list : List Run
  pub is : IsSuch list
  pub each : (other : List Run) → IsSuch other → count ≡ entries_needed other

-- ---- the counter
-- how many entries a run takes of which no more than the sectors below a limit count
abbrev pub entries_to : ℕ → Run → ℕ
entries_to limit run = (min (run.start + run.len) limit - run.start + 511) / 512

-- A counter has gone through the sectors of a list below a limit. The sectors of its last run are all in the list, the one before
-- them is not, and none is that comes after them and below the limit.
pub record CountsTo (limit : ℕ) (list : List Run) (c : RunCounter) : Type 0 where
  pub within : c.end ≤ limit
  pub last : (s : ℕ) → c.start ≤ s → s < c.end → IsBad list s
  pub first : (s : ℕ) → s + 1 ≡ c.start → IsBad list s → ⊥
  pub gap : (s : ℕ) → c.end ≤ s → s < limit → IsBad list s → ⊥
  pub counted : sum_by (entries_to limit) list ≡ c.entries + (c.end - c.start + 511) / 512

-- The counter goes on from one sector to another, whichever of these lists it counts.
abbrev pub Counts : (List Run → Type 0) → ℕ → ℕ → RunCounter → RunCounter → Type 0
Counts IsSuch from to old new =
    (list : List Run) → IsCanonical list → IsSuch list → CountsTo from list old → CountsTo to list new

-- ---- what a list has of the sectors between two
-- each of the sectors is in the list
abbrev pub HasEachSector : ℕ → ℕ → List Run → Type 0
HasEachSector from to list = (s : ℕ) → from ≤ s → s < to → IsBad list s

-- of the sectors the list has the same as another
abbrev pub HasSectorsOf : List Run → ℕ → ℕ → List Run → Type 0
HasSectorsOf other from to list = (s : ℕ) → from ≤ s → s < to → IsBad list s ↔ IsBad other s

-- ---- chunks on a device
-- Where a chunk begins on a device on which the array's sectors begin at an offset. Past the last chunk it is
-- where they end. No list has a sector from 2^54 on, so that it is no more than that.
abbrev pub place_of : Chunks → ℕ → ℕ → ℕ
place_of chunks offset chunk = min (offset + min (chunk * chunks.sectors) chunks.size) (2 ^ 54)
