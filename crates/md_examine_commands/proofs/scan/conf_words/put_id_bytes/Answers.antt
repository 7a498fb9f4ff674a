use Rattle.md_streams.proofs.Puts.{puts_then}
use Rattle.md_examine_commands.specs.ScanText.{id_text}
use Rattle.md_examine_commands.proofs.scan.conf_words.put_id_bytes.Goals as goal

pub returns : goal.returns
unfolding id_text
returns g c =
    puts_then g.S.Sink.contents g.S.Sink.failed (puts_then g.S.Sink.contents g.S.Sink.failed (puts_then g.S.Sink.contents g.S.Sink.failed (puts_then g.S.Sink.contents g.S.Sink.failed (puts_then g.S.Sink.contents g.S.Sink.failed (puts_then g.S.Sink.contents g.S.Sink.failed c.in_ok-put_quarter.ensures c.in_ok-put.ensures) c.in_ok-put_quarter-2.ensures) c.in_ok-put-2.ensures) c.in_ok-put_quarter-3.ensures) c.in_ok-put-3.ensures) c.in_ok-put_quarter-4.ensures
