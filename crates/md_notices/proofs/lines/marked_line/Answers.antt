use Rattle.md_notices.specs.Lines.{marked_line_text}
use Rattle.md_streams.proofs.Puts.{puts_then}
use Rattle.md_notices.proofs.lines.marked_line.Goals as goal

pub returns : goal.returns
unfolding marked_line_text
returns g c =
    puts_then g.S.Sink.contents g.S.Sink.failed
    (puts_then g.S.Sink.contents g.S.Sink.failed c.in_ok-put.ensures c.in_ok-put_name.ensures)
    c.in_ok-put-2.ensures
