use Rattle.std.proofs.Common.{take}
use Rattle.std.specs.List.{flat_map}
use Rattle.md_streams.specs.Sink.{Puts}
use Rattle.md_examine_commands.specs.ScanText.{other_comment}
use Rattle.md_examine_commands.proofs.scan.member_comments.put_others.Given as goal

abbrev pub invariant-loop-seen : goal.invariant-loop-seen
invariant-loop-seen g l = Puts g.S.Sink.contents g.S.Sink.failed l.fn.out l.out (flat_map (other_comment l.v) (take l.seen-index l.all))
