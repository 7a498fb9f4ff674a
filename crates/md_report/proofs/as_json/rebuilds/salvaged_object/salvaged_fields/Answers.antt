use Rattle.md_report.specs.AsJson.Objects.{later_text}
use Rattle.md_report.specs.AsJson.Rebuilds.SalvagedObject.{salvaged_fields}
use Rattle.md_streams.proofs.Puts.{puts_then}
use Rattle.md_report.proofs.JsonLemmas.Texts.{puts_last}
use Rattle.md_report.proofs.as_json.rebuilds.salvaged_object.salvaged_fields.Goals as goal

pub returns : goal.returns
unfolding later_text salvaged_fields
returns g c =
    let lost = c.in_ok-next_number-3.ensures in
    let lost = rw (c.count_sectors.ensures) at lost in
    let more = c.in_ok-next_number-4.ensures in
    let more = rw (c.besides.ensures) at more in
    let its = c.in_ok-lost_list.ensures in
    let its = rw (c.runs.ensures.runs) at its in
    puts_then g.S.Sink.contents g.S.Sink.failed c.in_ok-next_number.ensures
    (puts_then g.S.Sink.contents g.S.Sink.failed c.in_ok-next_number-2.ensures
    (puts_then g.S.Sink.contents g.S.Sink.failed lost (puts_then g.S.Sink.contents g.S.Sink.failed more (puts_last g.S.Sink.contents g.S.Sink.failed its))))
