use Rattle.std.proofs.Common.{◌≡◌, ◌<◌, ◌≤◌, ℕ, length, slice_index_or, vec_capacity}
use Rattle.md_kept_members.specs.View.{MemberView}
use Rattle.md_state.specs.Members.{IsMember}
use Rattle.md_check.specs.Plans.{IsOrderFor}
use Rattle.md_check.proofs.order.orders_for.Given as goal

abbrev pub invariant-loop-k : goal.invariant-loop-k
invariant-loop-k g l = record {
  count : length l.orders.items ≡ l.k;
  room : length l.mirror.array.members ≤ vec_capacity l.orders;
  each : (i : ℕ) (d : _) → i < l.k → (m : MemberView) → IsMember l.mirror.array i m → IsOrderFor m l.room (slice_index_or l.orders.items i d);
}
