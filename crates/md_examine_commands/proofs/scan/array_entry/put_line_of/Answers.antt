use Rattle.md_streams.proofs.Puts.{puts_then}
use Rattle.md_examine_commands.specs.ScanText.{named_array_line}
use Rattle.md_examine_commands.proofs.scan.array_entry.put_line_of.Goals as goal

pub returns : goal.returns
unfolding named_array_line
returns g c =
    puts_then g.S.Sink.contents g.S.Sink.failed (puts_then g.S.Sink.contents g.S.Sink.failed (puts_then g.S.Sink.contents g.S.Sink.failed (puts_then g.S.Sink.contents g.S.Sink.failed (puts_then g.S.Sink.contents g.S.Sink.failed (puts_then g.S.Sink.contents g.S.Sink.failed c.in_ok-put.ensures c.in_ok-put_path_of.ensures) c.in_ok-number_after.ensures) c.in_ok-put-2.ensures) c.in_ok-put_id.ensures) c.in_ok-put_name_words.ensures) c.in_ok-put-3.ensures
