use Rattle.std.proofs.Common.{◌≡◌, ◌<◌, ℕ, false, is_some, slice_index_or}
use Rattle.md_check.proofs.alike.first_read.Given as goal

abbrev pub invariant-loop-k : goal.invariant-loop-k
invariant-loop-k g l = (j : ℕ) (d : _) → j < l.k → is_some (slice_index_or l.readers j d).role ≡ false
