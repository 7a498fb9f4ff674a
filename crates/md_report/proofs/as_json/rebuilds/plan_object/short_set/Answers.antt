use Rattle.std.proofs.Common.{codes}
use Rattle.md_report.specs.AsJson.Objects.{whole}
use Rattle.md_report.specs.AsJson.Rebuilds.PlanObject.{certificate_fields}
use Rattle.md_streams.proofs.Puts.{puts_then}
use Rattle.md_report.proofs.JsonLemmas.Texts.{puts_object}
use Rattle.md_report.proofs.as_json.rebuilds.plan_object.short_set.Goals as goal

pub returns : goal.returns
unfolding certificate_fields
returns g c =
    let its = c.in_ok-number_list.ensures in
    let its = rw (c.as_slice.ensures) at its in
    puts_object g.S.Sink.contents g.S.Sink.failed (codes "rounds") (whole c.args.certificate.now.rounds) (certificate_fields c.args.certificate.now)
    c.in_ok-open_number.ensures (puts_then g.S.Sink.contents g.S.Sink.failed its c.in_ok-put.ensures)
