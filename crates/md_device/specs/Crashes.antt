-- What a crash at some moment leaves of a device.
use Rattle.std.specs.Prelude.{ℕ, ◌+◌, ◌*◌, ◌<◌, ◌≡◌, ◌⊎◌, List, ◌++◌, length, Result, MatchResult}
use Rattle.std.specs.List.{All}
use Rattle.md_device.specs.Splice.{SameOutside}
use Rattle.md_device.specs.Device.{held}

-- A write that was cut short: each of its sectors is as it was or as written, and nothing else changed. So are the content
-- before the write and the one after it.
pub record IsMixed (sector : ℕ) (bytes old new : List ℕ) : Type 0 where
  pub outside : SameOutside (512 * sector) (length bytes) old new
  pub each : (i : ℕ) → 512 * i < length bytes → (held new (sector + i) 512 ≡ held old (sector + i) 512) ⊎ (held new (sector + i) 512 ≡ held bytes i 512)

-- What a crash leaves within a write: of one that answers `Err` any bytes in its range.
abbrev pub WithinWrite : {T E : Type 0} → Result T E → ℕ → List ℕ → List ℕ → List ℕ → Type 0
WithinWrite result sector bytes old new = MatchResult result (λ _. IsMixed sector bytes old new) (λ _. SameOutside (512 * sector) (length bytes) old new)

-- Of what crashes might have left, this alone is new, and has P.
pub record LeavesMore (past now : List (List ℕ)) (P : List ℕ → Type 0) : Type 0 where
  pub more : List (List ℕ)
  pub all : now ≡ past ++ more
  pub each : All P more
