use Rattle.md_streams.proofs.Puts.{puts_then}
use Rattle.md_report.proofs.as_json.check_object.two_numbers.Goals as goal

pub returns : goal.returns
returns g c =
    puts_then g.S.Sink.contents g.S.Sink.failed c.in_ok-put.ensures
    (puts_then g.S.Sink.contents g.S.Sink.failed c.in_ok-number.ensures
    (puts_then g.S.Sink.contents g.S.Sink.failed c.in_ok-put-2.ensures
    (puts_then g.S.Sink.contents g.S.Sink.failed c.in_ok-number-2.ensures c.in_ok-put-3.ensures)))
