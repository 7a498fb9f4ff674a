use Rattle.md_report.specs.AsJson.Objects.{later_text}
use Rattle.md_report.specs.AsJson.Rebuilds.RebuiltObject.{rebuilt_fields}
use Rattle.md_streams.proofs.Puts.{puts_then}
use Rattle.md_report.proofs.JsonLemmas.Texts.{puts_last}
use Rattle.md_report.proofs.as_json.rebuilds.rebuilt_object.rebuilt_fields.Goals as goal

pub returns : goal.returns
unfolding later_text rebuilt_fields
returns g c =
    puts_then g.S.Sink.contents g.S.Sink.failed c.in_ok-next_number.ensures (puts_then g.S.Sink.contents g.S.Sink.failed c.in_ok-next_number-2.ensures (puts_last g.S.Sink.contents g.S.Sink.failed c.in_ok-number_list.ensures))
