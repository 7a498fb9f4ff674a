use Rattle.std.proofs.Common.{codes}
use Rattle.md_report.specs.AsJson.Objects.{whole}
use Rattle.md_report.specs.AsJson.OneImage.BadblocksObject.{run_fields}
use Rattle.md_streams.proofs.Puts.{puts_then}
use Rattle.md_report.proofs.JsonLemmas.Texts.{puts_object}
use Rattle.md_report.proofs.as_json.one_image.badblocks_object.run_value.Goals as goal

pub returns : goal.returns
unfolding run_fields
returns g c =
    puts_object g.S.Sink.contents g.S.Sink.failed (codes "sector") (whole c.args.run.now.start) (run_fields c.args.run.now)
    c.in_ok-open_number.ensures (puts_then g.S.Sink.contents g.S.Sink.failed c.in_ok-next_number.ensures c.in_ok-put.ensures)
