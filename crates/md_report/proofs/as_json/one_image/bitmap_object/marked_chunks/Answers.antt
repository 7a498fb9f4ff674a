use Rattle.md_report.specs.AsJson.Objects.{later_text}
use Rattle.md_report.specs.AsJson.OneImage.BitmapObject.{mark_fields}
use Rattle.md_streams.proofs.Puts.{puts_then}
use Rattle.md_report.proofs.JsonLemmas.Texts.{puts_last}
use Rattle.md_report.proofs.as_json.one_image.bitmap_object.marked_chunks.Goals as goal

pub returns : goal.returns
unfolding later_text mark_fields
returns g c =
    let all = puts_then g.S.Sink.contents g.S.Sink.failed c.in_ok-next_number.ensures (puts_last g.S.Sink.contents g.S.Sink.failed c.in_ok-next_number-2.ensures) in
    rw (c.chunks.ensures, c.count.ensures) at all
