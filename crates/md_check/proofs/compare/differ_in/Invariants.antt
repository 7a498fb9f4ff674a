use Rattle.std.proofs.Common.{◌≡◌, ◌<◌, ℕ, true, is_some, slice_get, Some}
use Rattle.md_badblocks.specs.Runs.{IsBad}
use Rattle.md_check.specs.Readers.{in_window}
use Rattle.md_check.proofs.compare.differ_in.Given as goal

abbrev pub invariant-loop-k : goal.invariant-loop-k
invariant-loop-k g l = (j : ℕ) (reader first : _) → j < l.k → slice_get l.readers j ≡ Some reader → slice_get l.readers l.first ≡ Some first → is_some reader.role ≡ true → (IsBad reader.listed l.sector → ⊥)
    → in_window l.lead l.from first l.sector ≡ in_window l.lead l.from reader l.sector
