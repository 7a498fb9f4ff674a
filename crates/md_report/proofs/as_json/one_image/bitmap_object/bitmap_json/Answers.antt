use Rattle.std.proofs.Common.{[], ◌∷◌, codes}
use Rattle.md_report.specs.AsJson.OneImage.BitmapObject.{identity_fields, mark_fields, setting_fields}
use Rattle.md_streams.proofs.Puts.{puts_then}
use Rattle.md_report.proofs.JsonLemmas.Texts.{puts_report}
use Rattle.md_report.proofs.as_json.one_image.bitmap_object.bitmap_json.Goals as goal

pub returns : goal.returns
returns g c =
    puts_report g.S.Sink.contents g.S.Sink.failed (codes "examine-bitmap") (identity_fields c.args.header.now ∷ setting_fields c.args.header.now ∷ mark_fields c.args.marks.now ∷ [])
    c.in_ok-open.ensures (puts_then g.S.Sink.contents g.S.Sink.failed c.in_ok-identity.ensures (puts_then g.S.Sink.contents g.S.Sink.failed c.in_ok-settings.ensures (puts_then g.S.Sink.contents g.S.Sink.failed c.in_ok-marked_chunks.ensures c.in_ok-close.ensures)))
