use Rattle.std.proofs.Common.{[], ◌∷◌, codes}
use Rattle.md_report.specs.AsJson.OneImage.BadblocksObject.{list_fields}
use Rattle.md_streams.proofs.Puts.{puts_then}
use Rattle.md_report.proofs.JsonLemmas.Texts.{puts_report}
use Rattle.md_report.proofs.as_json.one_image.badblocks_object.badblocks_json.Goals as goal

pub returns : goal.returns
returns g c =
    let its = c.in_ok-run_list.ensures in
    let its = rw (c.runs.ensures.runs) at its in
    puts_report g.S.Sink.contents g.S.Sink.failed (codes "examine-badblocks") (list_fields c.args.bad.now ∷ [])
    c.in_ok-open.ensures (puts_then g.S.Sink.contents g.S.Sink.failed its c.in_ok-close.ensures)
