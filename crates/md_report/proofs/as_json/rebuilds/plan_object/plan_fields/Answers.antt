use Rattle.md_report.specs.AsJson.Objects.{later_text}
use Rattle.md_report.specs.AsJson.Rebuilds.PlanObject.{plan_fields}
use Rattle.md_streams.proofs.Puts.{puts_then}
use Rattle.md_report.proofs.JsonLemmas.Texts.{puts_last}
use Rattle.md_report.proofs.as_json.rebuilds.plan_object.plan_fields.Goals as goal

pub returns : goal.returns
unfolding later_text plan_fields
returns g c =
    let all = puts_then g.S.Sink.contents g.S.Sink.failed c.in_ok-next_number.ensures (puts_then g.S.Sink.contents g.S.Sink.failed c.in_ok-slot_list.ensures (puts_then g.S.Sink.contents g.S.Sink.failed c.in_ok-certificate_field.ensures (puts_last g.S.Sink.contents g.S.Sink.failed c.in_ok-number_list.ensures))) in
    rw (c.as_slice.ensures) at all
