use Rattle.std.proofs.Common.{codes}
use Rattle.md_report.specs.AsJson.Objects.{whole}
use Rattle.md_report.specs.AsJson.Rebuilds.PlanObject.{slot_fields}
use Rattle.md_streams.proofs.Puts.{puts_then}
use Rattle.md_report.proofs.JsonLemmas.Texts.{puts_object}
use Rattle.md_report.proofs.as_json.rebuilds.plan_object.slot_value.Goals as goal

pub returns : goal.returns
unfolding slot_fields
returns g c =
    puts_object g.S.Sink.contents g.S.Sink.failed (codes "chunk") (whole c.args.slot.now.chunk) (slot_fields c.args.slot.now)
    c.in_ok-open_number.ensures (puts_then g.S.Sink.contents g.S.Sink.failed c.in_ok-next_number.ensures (puts_then g.S.Sink.contents g.S.Sink.failed c.in_ok-next_number-2.ensures c.in_ok-put.ensures))
