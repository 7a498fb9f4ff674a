use Rattle.std.specs.List.{flat_map, range_with_len}
use Rattle.md_streams.specs.Sink.{Puts}
use Rattle.md_examine_commands.specs.ScanText.{role_comments}
use Rattle.md_examine_commands.proofs.scan.member_comments.put_roles.Given as goal

abbrev pub invariant-loop-role : goal.invariant-loop-role
invariant-loop-role g l = Puts g.S.Sink.contents g.S.Sink.failed l.fn.out l.out (flat_map (role_comments l.v l.all) (range_with_len 0 l.role))
