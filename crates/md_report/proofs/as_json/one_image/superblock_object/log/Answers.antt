use Rattle.std.proofs.Common.{codes, ◌*◌}
use Rattle.md_report.specs.AsJson.Objects.{whole}
use Rattle.md_report.specs.AsJson.OneImage.SuperblockObject.{log_object_fields}
use Rattle.md_streams.proofs.Puts.{puts_then}
use Rattle.md_report.proofs.JsonLemmas.Texts.{puts_object}
use Rattle.md_report.proofs.as_json.one_image.superblock_object.log.Goals as goal

pub returns : goal.returns
unfolding log_object_fields
returns g c =
    puts_object g.S.Sink.contents g.S.Sink.failed (codes "entries") (whole (64 * c.args.v.now.bblog_size)) (log_object_fields c.args.v.now)
    c.in_ok-open_number.ensures (puts_then g.S.Sink.contents g.S.Sink.failed c.in_ok-log_place.ensures c.in_ok-put.ensures)
