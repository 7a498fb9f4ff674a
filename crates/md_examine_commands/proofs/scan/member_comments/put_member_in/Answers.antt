use Rattle.md_streams.proofs.Puts.{puts_then}
use Rattle.md_examine_commands.specs.ScanText.{member_comment_in}
use Rattle.md_examine_commands.proofs.scan.member_comments.put_member_in.Goals as goal

pub returns : goal.returns
unfolding member_comment_in
returns g c =
    puts_then g.S.Sink.contents g.S.Sink.failed (puts_then g.S.Sink.contents g.S.Sink.failed (puts_then g.S.Sink.contents g.S.Sink.failed (puts_then g.S.Sink.contents g.S.Sink.failed (puts_then g.S.Sink.contents g.S.Sink.failed c.in_ok-put_slot.ensures c.in_ok-put_name.ensures) c.in_ok-put_standing.ensures) c.in_ok-number_after.ensures) c.in_ok-put_behind.ensures) c.in_ok-put.ensures
