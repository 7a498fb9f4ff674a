use Rattle.std.specs.List.{flat_map, range_with_len}
use Rattle.md_streams.specs.Sink.{Puts}
use Rattle.md_examine_commands.specs.ScanText.{twin_at}
use Rattle.md_examine_commands.proofs.scan.member_comments.put_twins.Given as goal

abbrev pub invariant-loop-place : goal.invariant-loop-place
invariant-loop-place g l = Puts g.S.Sink.contents g.S.Sink.failed l.fn.out l.out (flat_map (twin_at l.v l.all) (range_with_len 0 l.place))
