use Rattle.std.proofs.Common.{◌≡◌, ◌<◌, ℕ, slice_index_or, true}
use Rattle.md_check.proofs.alike.are_alike.Given as goal

abbrev pub invariant-loop-k : goal.invariant-loop-k
invariant-loop-k g l = (j : ℕ) (d : _) → j < l.k → (slice_index_or l.readers j d).alike ≡ true
