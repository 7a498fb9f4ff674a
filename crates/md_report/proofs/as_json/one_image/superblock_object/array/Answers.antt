use Rattle.md_report.specs.AsJson.Objects.{later_text}
use Rattle.md_report.specs.AsJson.OneImage.SuperblockObject.{array_fields}
use Rattle.md_streams.proofs.Puts.{puts_then}
use Rattle.md_report.proofs.JsonLemmas.Texts.{puts_last}
use Rattle.md_report.proofs.as_json.one_image.superblock_object.array.Goals as goal

pub returns : goal.returns
unfolding later_text array_fields
returns g c =
    puts_then g.S.Sink.contents g.S.Sink.failed c.in_ok-next_text.ensures (puts_then g.S.Sink.contents g.S.Sink.failed c.in_ok-next_text-2.ensures (puts_then g.S.Sink.contents g.S.Sink.failed c.in_ok-next_number.ensures (puts_then g.S.Sink.contents g.S.Sink.failed c.in_ok-next_uuid.ensures (puts_then g.S.Sink.contents g.S.Sink.failed c.in_ok-next_name.ensures (puts_last g.S.Sink.contents g.S.Sink.failed c.in_ok-next_number-2.ensures)))))
