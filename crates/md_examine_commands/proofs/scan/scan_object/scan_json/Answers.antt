use Rattle.std.proofs.Common.{[], ◌∷◌, codes}
use Rattle.md_examine_commands.specs.ScanObject.{scan_fields}
use Rattle.md_streams.proofs.Puts.{puts_then}
use Rattle.md_report.proofs.JsonLemmas.Texts.{puts_report}
use Rattle.md_examine_commands.proofs.scan.scan_object.scan_json.Goals as goal

pub returns : goal.returns
returns g c =
    puts_report g.S.Sink.contents g.S.Sink.failed (codes "scan") (scan_fields c.args.is_named c.args.all.now c.args.refused.now ∷ [])
    c.in_ok-open.ensures (puts_then g.S.Sink.contents g.S.Sink.failed c.in_ok-put_lists.ensures c.in_ok-close.ensures)
