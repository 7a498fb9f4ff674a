use Rattle.std.proofs.Common.{[], ◌∷◌, codes}
use Rattle.md_report.specs.AsJson.Rebuilds.SalvagedObject.{salvaged_fields}
use Rattle.md_streams.proofs.Puts.{puts_then}
use Rattle.md_report.proofs.JsonLemmas.Texts.{puts_report}
use Rattle.md_report.proofs.as_json.rebuilds.salvaged_object.salvaged_json.Goals as goal

pub returns : goal.returns
returns g c =
    puts_report g.S.Sink.contents g.S.Sink.failed (codes "rebuild") (salvaged_fields c.args.member c.args.lost.now c.args.listed.now ∷ [])
    c.in_ok-open.ensures (puts_then g.S.Sink.contents g.S.Sink.failed c.in_ok-salvaged_fields.ensures c.in_ok-close.ensures)
