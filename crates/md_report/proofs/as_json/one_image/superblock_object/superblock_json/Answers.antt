use Rattle.std.proofs.Common.{[], ◌∷◌, codes}
use Rattle.md_report.specs.AsJson.OneImage.SuperblockObject.{array_fields, device_fields, place_fields, size_fields, state_fields}
use Rattle.md_streams.proofs.Puts.{puts_then}
use Rattle.md_report.proofs.JsonLemmas.Texts.{puts_report}
use Rattle.md_report.proofs.as_json.one_image.superblock_object.superblock_json.Goals as goal

pub returns : goal.returns
returns g c =
    puts_report g.S.Sink.contents g.S.Sink.failed (codes "examine") (array_fields c.args.v.now ∷ size_fields c.args.v.now ∷ device_fields c.args.v.now ∷ place_fields c.args.v.now ∷ state_fields c.args.v.now ∷ [])
    c.in_ok-open.ensures (puts_then g.S.Sink.contents g.S.Sink.failed c.in_ok-array.ensures (puts_then g.S.Sink.contents g.S.Sink.failed c.in_ok-sizes.ensures (puts_then g.S.Sink.contents g.S.Sink.failed c.in_ok-device.ensures (puts_then g.S.Sink.contents g.S.Sink.failed c.in_ok-places.ensures (puts_then g.S.Sink.contents g.S.Sink.failed c.in_ok-state.ensures c.in_ok-close.ensures)))))
