use Rattle.std.specs.List.{flat_map, range_with_len}
use Rattle.md_streams.specs.Sink.{Puts}
use Rattle.md_messages.specs.Telling.{unnamed_at}
use Rattle.md_messages.proofs.telling.put_all_unnamed.Given as goal

abbrev pub invariant-loop-role : goal.invariant-loop-role
invariant-loop-role g l = Puts g.S.Sink.contents g.S.Sink.failed l.fn.out l.out (flat_map (unnamed_at l.notices) (range_with_len 0 l.role))
