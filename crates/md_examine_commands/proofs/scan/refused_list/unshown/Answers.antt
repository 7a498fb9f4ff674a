use Rattle.std.proofs.Common.{codes}
use Rattle.serde_json.specs.Data.{string}
use Rattle.md_streams.proofs.Puts.{puts_then}
use Rattle.md_report.proofs.JsonLemmas.Texts.{puts_object}
use Rattle.md_examine_commands.specs.Unshown.{unshown_fields}
use Rattle.md_examine_commands.proofs.scan.refused_list.unshown.Goals as goal

pub returns : goal.returns
unfolding unshown_fields
returns g c =
    puts_object g.S.Sink.contents g.S.Sink.failed (codes "image") (string c.args.refused.now.name.now) (unshown_fields c.args.refused.now)
    c.in_ok-open_image.ensures (puts_then g.S.Sink.contents g.S.Sink.failed c.in_ok-put_fault.ensures c.in_ok-put.ensures)
