use Rattle.std.proofs.Common.{◌<◌, ℕ}
use Rattle.md_cli.specs.Lacking.{IsLacking}
use Rattle.md_cli.proofs.lists.storing_lists.is_some_lacking.Given as goal

abbrev pub invariant-loop-k : goal.invariant-loop-k
invariant-loop-k g l = (i : ℕ) → i < l.k → IsLacking l.lacking l.mirror.array i → ⊥
