use Rattle.std.proofs.Common.{codes, length}
use Rattle.md_report.specs.AsJson.Objects.{later_text, whole}
use Rattle.md_report.specs.AsJson.CheckObject.{compared_fields, compared_to}
use Rattle.md_report.proofs.JsonLemmas.Texts.{puts_last, puts_list}
use Rattle.md_report.proofs.as_json.check_object.compared_members.Goals as goal

pub returns : goal.returns
unfolding later_text compared_fields
returns g c =
    let members = c.args.mirror.now.array.members in
    puts_last g.S.Sink.contents g.S.Sink.failed
    (puts_list g.S.Sink.contents g.S.Sink.failed whole (codes "compared_members") (compared_to members (length members)) c.in_ok-next_key.ensures c.in_ok-put.ensures c.in_ok-compared_elements.ensures c.in_ok-put-2.ensures)
