use Rattle.md_report.specs.AsJson.Objects.{later_text}
use Rattle.md_report.specs.AsJson.OneImage.SuperblockObject.{place_fields}
use Rattle.md_streams.proofs.Puts.{puts_then}
use Rattle.md_report.proofs.JsonLemmas.Texts.{puts_last}
use Rattle.md_report.proofs.as_json.one_image.superblock_object.places.Goals as goal

pub returns : goal.returns
unfolding later_text place_fields
returns g c = puts_then g.S.Sink.contents g.S.Sink.failed c.in_ok-bitmap.ensures (puts_last g.S.Sink.contents g.S.Sink.failed c.in_ok-bad_block_log.ensures)
