use Rattle.std.proofs.Common.{codes}
use Rattle.std.specs.List.{filter}
use Rattle.md_examine_commands.specs.ScanObject.{scan_member_object}
use Rattle.md_examine_commands.specs.ScanText.{is_same_array}
use Rattle.md_report.proofs.JsonLemmas.Texts.{puts_list}
use Rattle.md_examine_commands.proofs.scan.scan_object.members.Goals as goal

pub returns : goal.returns
returns g c =
    puts_list g.S.Sink.contents g.S.Sink.failed (scan_member_object c.args.v.now) (codes "members") (filter (is_same_array c.args.v.now) c.args.all.now) c.in_ok-next_key.ensures c.in_ok-put.ensures c.in_ok-member_elements.ensures c.in_ok-put-2.ensures
