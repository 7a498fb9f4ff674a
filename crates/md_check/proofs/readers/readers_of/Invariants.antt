use Rattle.std.proofs.Common.{◌≡◌, ◌<◌, ℕ, length, drop, slice_index_or, vec_capacity}
use Rattle.md_check.specs.Plans.{IsReaderOf}
use Rattle.md_check.proofs.readers.readers_of.Given as goal

abbrev pub invariant-loop-k : goal.invariant-loop-k
invariant-loop-k g l = record {
  orders : l.orders.items ≡ drop l._k l.initial.orders.items;
  devices : l.devices.items ≡ drop l._k l.initial.devices.items;
  count : length l.readers.items ≡ l._k;
  room : vec_capacity l.readers ≡ vec_capacity l.initial.readers;
  kept : vec_capacity l.devices ≡ vec_capacity l.initial.devices;
  each : (i : ℕ) (reader : _) → i < l._k → (order device : _) → IsReaderOf (slice_index_or l.initial.orders.items i order) (slice_index_or l.initial.devices.items i device) (slice_index_or l.readers.items i reader);
}
