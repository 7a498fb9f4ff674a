use Rattle.md_report.specs.AsJson.Objects.{later_text}
use Rattle.md_report.specs.AsJson.WholeArray.ArrayObjects.{summary_fields}
use Rattle.md_streams.proofs.Puts.{puts_then}
use Rattle.md_report.proofs.JsonLemmas.Texts.{puts_last}
use Rattle.md_report.proofs.as_json.whole_array.array_objects.summary.Goals as goal

pub returns : goal.returns
unfolding later_text summary_fields
returns g c =
    let all = puts_then g.S.Sink.contents g.S.Sink.failed c.in_ok-next_number.ensures (puts_then g.S.Sink.contents g.S.Sink.failed c.in_ok-next_number-2.ensures (puts_then g.S.Sink.contents g.S.Sink.failed c.in_ok-next_number-3.ensures (puts_last g.S.Sink.contents g.S.Sink.failed c.in_ok-next_number-4.ensures))) in
    rw (c.in_sync_count.ensures, c.shared.ensures, c.events.ensures, c.count.ensures, c.marks.ensures) at all
