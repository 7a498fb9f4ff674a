use Rattle.std.proofs.Common.{◌≡◌, ◌≤◌, [], length, vec_capacity}
use Rattle.std.specs.List.{All}
use Rattle.std_alloc.specs.VecDeque.{deque_capacity}
use Rattle.md_collect.proofs.workers.reports.Reports.none.Given as goal

abbrev pub invariant-loop-spare : goal.invariant-loop-spare
invariant-loop-spare l = record {
  none : l.waiting.items ≡ [];
  waits : l.room ≤ deque_capacity l.waiting;
  count : length l.spares.items ≡ l._spare;
  fits : l.room ≤ vec_capacity l.spares;
  unused : All (λ spare. l.longest ≤ vec_capacity spare) l.spares.items;
}
