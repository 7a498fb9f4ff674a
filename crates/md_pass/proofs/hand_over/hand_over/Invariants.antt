use Rattle.std.proofs.Common.{◌≡◌, ◌<◌, ◌≤◌, ℕ, length, slice_index_or}
use Rattle.md_collect.specs.Workers.Waiting.{WaitingView}
use Rattle.md_pass.specs.Handing.{handed}
use Rattle.md_pass.proofs.hand_over.hand_over.Given as goal

abbrev pub invariant-loop-k : goal.invariant-loop-k
invariant-loop-k g l = record {
  as_many : length l.queues.items ≡ length l.initial.queues.items;
  waits_as_many : length l.waiting.items ≡ length l.initial.waiting.items;
  queues_are : (k : ℕ) (q : _) (w : WaitingView) → k < l.k → slice_index_or l.queues.items k q ≡ handed (slice_index_or l.initial.queues.items k q) (slice_index_or l.initial.waiting.items k w);
  waits_are : (k : ℕ) (q : _) (w : WaitingView) → k < l.k → slice_index_or l.waiting.items k w ≡ (slice_index_or l.initial.queues.items k q).reports;
  queues_untouched : (k : ℕ) (q : _) → l.k ≤ k → slice_index_or l.queues.items k q ≡ slice_index_or l.initial.queues.items k q;
  waits_untouched : (k : ℕ) (w : WaitingView) → l.k ≤ k → slice_index_or l.waiting.items k w ≡ slice_index_or l.initial.waiting.items k w;
}
