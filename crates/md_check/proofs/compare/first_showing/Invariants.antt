use Rattle.std.proofs.Common.{◌≡◌, ◌<◌, ℕ, true, is_some, slice_get, Some}
use Rattle.md_badblocks.specs.Runs.{IsBad}
use Rattle.md_check.proofs.compare.first_showing.Given as goal

abbrev pub invariant-loop-k : goal.invariant-loop-k
invariant-loop-k g l = (j : ℕ) (reader : _) → j < l.k → slice_get l.readers j ≡ Some reader → is_some reader.role ≡ true → (IsBad reader.listed l.sector → ⊥) → ⊥
