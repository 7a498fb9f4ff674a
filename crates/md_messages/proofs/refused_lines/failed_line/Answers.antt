use Rattle.md_streams.proofs.Puts.{puts_then}
use Rattle.md_messages.specs.RefusedLines.{failed_text}
use Rattle.md_messages.proofs.refused_lines.failed_line.Goals as goal

pub returns : goal.returns
unfolding failed_text
returns g c =
    let named = puts_then g.S.Sink.contents g.S.Sink.failed c.in_ok-put.ensures c.in_ok-put_name.ensures in
    puts_then g.S.Sink.contents g.S.Sink.failed named c.in_ok-put-2.ensures
