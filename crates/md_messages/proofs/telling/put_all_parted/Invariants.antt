use Rattle.std.specs.List.{flat_map, range_with_len}
use Rattle.md_streams.specs.Sink.{Puts}
use Rattle.md_messages.specs.Telling.{parted_at, texts}
use Rattle.md_messages.proofs.telling.put_all_parted.Given as goal

abbrev pub invariant-loop-k : goal.invariant-loop-k
invariant-loop-k g l = Puts g.S.Sink.contents g.S.Sink.failed l.fn.out l.out (flat_map (parted_at l.before l.notices (texts l.names)) (range_with_len 0 l.k))
