-- Lost sectors, and those between them that are listed too, of chunks that a member lacks (this project's own).
use Rattle.std.specs.Prelude.{◌≡◌, ◌⊎◌, ◌↔◌, ℕ, ◌^◌, ◌<◌, ◌≤◌, false, List}
use Rattle.md_badblocks.specs.declared.run.Run.{Run}
use Rattle.md_badblocks.specs.Runs.{IsBad, IsCanonical, entries_needed}
use Rattle.md_bitmap.specs.declared.chunks.Chunks.{Chunks}
use Rattle.md_bitmap.specs.Chunks.{InChunk}
use Rattle.md_bitmap.specs.Marks.{Bitmap, is_set}
use Rattle.md_copy.specs.Salvaging.United.{LiesInGapTo}

-- The sector lies in none of the first n chunks that are not in a set.
abbrev pub IsBesideFirst : ℕ → Chunks → Bitmap → ℕ → Type 0
IsBesideFirst n chunks set s = (c : ℕ) → c < n → is_set set.bytes c ≡ false → InChunk chunks.sectors chunks.size c s → ⊥

abbrev pub IsBesideOthers : Chunks → Bitmap → ℕ → Type 0
IsBesideOthers chunks set s = IsBesideFirst set.chunks chunks set s

-- The sectors of the first n chunks that are not in the set are taken from a list.
pub record AreKeptTo (n : ℕ) (chunks : Chunks) (set : Bitmap) (old new : List Run) : Type 0 where
  pub canonical : IsCanonical new
  pub bad : (s : ℕ) → IsBad new s ↔ (IsBad old s × IsBesideFirst n chunks set s)

-- The sector lies in one of the first n chunks that are not in a set.
pub record IsOfFirstOthers (n : ℕ) (chunks : Chunks) (set : Bitmap) (s : ℕ) : Type 0 where
  pub chunk : ℕ
  pub low : chunk < n
  pub unset : is_set set.bytes chunk ≡ false
  pub inside : InChunk chunks.sectors chunks.size chunk s

-- A list of all sectors of the first n chunks that are not in the set.
pub record AreOthersTo (n : ℕ) (chunks : Chunks) (set : Bitmap) (list : List Run) : Type 0 where
  pub canonical : IsCanonical list
  pub bad : (s : ℕ) → IsBad list s ↔ (IsOfFirstOthers n chunks set s × (s < 2 ^ 54))

-- The sector is lost, and in no chunk that is not missing.
abbrev pub IsLostThere : Chunks → Bitmap → List Run → ℕ → Type 0
IsLostThere chunks missing lost s = IsBad lost s × IsBesideOthers chunks missing s

-- All lost sectors are listed, and none of a chunk that is not missing.
pub record ListsAllLost (chunks : Chunks) (missing : Bitmap) (lost listed : List Run) : Type 0 where
  pub canonical : IsCanonical listed
  pub all : (s : ℕ) → IsLostThere chunks missing lost s → IsBad listed s
  pub beside : (s : ℕ) → IsBad listed s → IsBesideOthers chunks missing s

-- Besides the lost sectors such are listed as lie between two of them with fewer than `gap` between, or with just as many where the second is before `to`.
pub record IsWidened (gap to : ℕ) (chunks : Chunks) (missing : Bitmap) (lost listed : List Run) : Type 0 where
  pub lists : ListsAllLost chunks missing lost listed
  pub more : (s : ℕ) → IsBad listed s → IsLostThere chunks missing lost s ⊎ LiesInGapTo gap to (IsLostThere chunks missing lost) s

-- No such list takes fewer entries of a log. Where gaps of 510 sectors may be closed wherever they are, no list of the lost sectors does that has none of
-- a chunk that is not missing: an entry names at most 512 sectors.
pub record TakesFewest (gap to : ℕ) (chunks : Chunks) (missing : Bitmap) (lost listed : List Run) : Type 0 where
  pub widened : IsWidened gap to chunks missing lost listed
  pub fewest : (other : List Run) → IsWidened gap to chunks missing lost other → entries_needed listed ≤ entries_needed other
  pub ever : gap ≡ 510 → to ≡ 2 ^ 54 → (other : List Run) → ListsAllLost chunks missing lost other → entries_needed listed ≤ entries_needed other

-- no sector of the chunk is in a list
abbrev pub IsNotListed : Chunks → List Run → ℕ → Type 0
IsNotListed chunks listed c = (s : ℕ) → InChunk chunks.sectors chunks.size c s → IsBad listed s → ⊥
