use Rattle.md_report.specs.AsJson.Objects.{later_text}
use Rattle.md_report.specs.AsJson.WholeArray.ArrayObjects.{shared_fields}
use Rattle.md_streams.proofs.Puts.{puts_then}
use Rattle.md_report.proofs.JsonLemmas.Texts.{puts_last}
use Rattle.md_report.proofs.as_json.whole_array.array_objects.shared_fields.Goals as goal

pub returns : goal.returns
unfolding later_text shared_fields
returns g c =
    puts_then g.S.Sink.contents g.S.Sink.failed c.in_ok-next_uuid.ensures (puts_then g.S.Sink.contents g.S.Sink.failed c.in_ok-next_name.ensures (puts_then g.S.Sink.contents g.S.Sink.failed c.in_ok-next_number.ensures (puts_last g.S.Sink.contents g.S.Sink.failed c.in_ok-next_number-2.ensures)))
