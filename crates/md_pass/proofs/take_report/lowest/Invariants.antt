use Rattle.std.proofs.Common.{◌≡◌, ◌<◌, ℕ, [], length, slice_index_or, IfNone, IfSome}
use Rattle.md_pass.specs.Joining.{none_waiting}
use Rattle.md_pass.proofs.take_report.lowest.Given as goal

abbrev pub invariant-loop-k : goal.invariant-loop-k
invariant-loop-k l = record {
  some : IfSome l.found (λ k. (k < length l.waiting) × (0 < length (slice_index_or l.waiting k none_waiting).waiting));
  none : IfNone l.found ((k : ℕ) (d : _) → k < l.k → (slice_index_or l.waiting k d).waiting ≡ []);
}
