use Rattle.std.proofs.Common.{◌≡◌, ◌≤◌}
use Rattle.std.specs.List.{flat_map, range_with_len}
use Rattle.md_streams.specs.Sink.{Puts}
use Rattle.md_messages.specs.Telling.{each_at, place_among, texts}
use Rattle.md_messages.proofs.telling.put_each.Given as goal

abbrev pub invariant-loop-place : goal.invariant-loop-place
invariant-loop-place g l = record {
  told : Puts g.S.Sink.contents g.S.Sink.failed l.fn.out l.out (flat_map (each_at l.each (texts l.names)) (range_with_len 0 l.place));
  next : l.next ≡ place_among (texts l.names) l.place;
  few : l.next ≤ l.place;
}
