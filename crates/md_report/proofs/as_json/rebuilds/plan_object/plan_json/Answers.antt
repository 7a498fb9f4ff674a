use Rattle.std.proofs.Common.{[], ◌∷◌, codes}
use Rattle.md_report.specs.AsJson.WholeArray.ArrayObjects.{members_fields}
use Rattle.md_report.specs.AsJson.Rebuilds.PlanObject.{plan_fields}
use Rattle.md_report.specs.AsJson.WholeArray.MemberObjects.{texts_of}
use Rattle.md_streams.proofs.Puts.{puts_then}
use Rattle.md_report.proofs.JsonLemmas.Texts.{puts_report}
use Rattle.md_report.proofs.as_json.rebuilds.plan_object.plan_json.Goals as goal

pub returns : goal.returns
returns g c =
    puts_report g.S.Sink.contents g.S.Sink.failed (codes "plan") ((plan_fields c.args.plan.now c.args.certificate.now c.args.orphans.now) ∷ members_fields c.args.mirror.now.array (texts_of c.args.images.now) ∷ [])
    c.in_ok-open.ensures (puts_then g.S.Sink.contents g.S.Sink.failed c.in_ok-plan_fields.ensures (puts_then g.S.Sink.contents g.S.Sink.failed c.in_ok-members.ensures c.in_ok-close.ensures))
