use Rattle.md_report.specs.AsJson.Objects.{next_text}
use Rattle.md_streams.proofs.Puts.{puts_then}
use Rattle.md_report.proofs.as_json.one_image.superblock_object.next_log.Goals as goal

pub returns : goal.returns
unfolding next_text
returns g c = puts_then g.S.Sink.contents g.S.Sink.failed c.in_ok-next_key.ensures c.in_ok-log.ensures
