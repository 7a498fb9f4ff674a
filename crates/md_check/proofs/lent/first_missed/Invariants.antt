use Rattle.std.proofs.Common.{◌≡◌, ◌<◌, ℕ, None, slice_index_or}
use Rattle.md_check.proofs.lent.first_missed.Given as goal

abbrev pub invariant-loop-k : goal.invariant-loop-k
invariant-loop-k g l = (j : ℕ) (d : _) → j < l.k → (slice_index_or l.readers j d).missed ≡ None
