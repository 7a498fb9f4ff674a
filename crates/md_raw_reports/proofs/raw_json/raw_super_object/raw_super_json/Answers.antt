use Rattle.std.proofs.Common.{[], ◌∷◌, codes}
use Rattle.md_raw_reports.specs.RawJson.RawSuper.{found_fields, known_fields, unread_fields}
use Rattle.md_streams.proofs.Puts.{puts_then}
use Rattle.md_report.proofs.JsonLemmas.Texts.{puts_report}
use Rattle.md_raw_reports.proofs.raw_json.raw_super_object.raw_super_json.Goals as goal

pub returns : goal.returns
returns g c =
    puts_report g.S.Sink.contents g.S.Sink.failed (codes "examine --all") (unread_fields c.args.read ∷ known_fields c.args.read c.args.bytes.now ∷ found_fields c.args.found.now ∷ [])
    c.in_ok-open.ensures (puts_then g.S.Sink.contents g.S.Sink.failed c.in_ok-unread.ensures (puts_then g.S.Sink.contents g.S.Sink.failed c.in_ok-known_part.ensures (puts_then g.S.Sink.contents g.S.Sink.failed c.in_ok-elsewhere.ensures c.in_ok-close.ensures)))
