use Rattle.md_report.specs.AsText.CheckReport.{chunk_line}
use Rattle.md_streams.proofs.Puts.{puts_then}
use Rattle.md_report.proofs.as_text.check_line.chunk_line.Goals as goal

pub returns : goal.returns
unfolding chunk_line
returns g c =
    let start = puts_then g.S.Sink.contents g.S.Sink.failed c.in_ok-right_aligned_number.ensures c.in_ok-number_after.ensures in
    let pairs = puts_then g.S.Sink.contents g.S.Sink.failed (puts_then g.S.Sink.contents g.S.Sink.failed start c.in_ok-put.ensures) c.in_ok-pairs_where_set.ensures in
    puts_then g.S.Sink.contents g.S.Sink.failed pairs c.in_ok-put-2.ensures
