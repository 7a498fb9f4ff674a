use Rattle.std.proofs.Common.{◌≡◌, length, map, take, drop, vec_capacity}
use Rattle.md_check.proofs.readers.leave_readers.Given as goal

abbrev pub invariant-loop-k : goal.invariant-loop-k
invariant-loop-k g l = record {
  readers : l.readers.items ≡ drop l._k l.initial.readers.items;
  devices : l.devices.items ≡ map (λ reader. reader.device) (take l._k l.initial.readers.items);
  count : length l.devices.items ≡ l._k;
  room : vec_capacity l.devices ≡ vec_capacity l.initial.devices;
}
