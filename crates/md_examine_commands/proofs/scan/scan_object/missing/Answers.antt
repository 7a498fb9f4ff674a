use Rattle.std.proofs.Common.{codes}
use Rattle.std.specs.List.{filter, range_with_len}
use Rattle.md_report.specs.AsJson.Objects.{whole}
use Rattle.md_examine_commands.specs.ScanObject.{is_unseen_role}
use Rattle.md_report.proofs.JsonLemmas.Texts.{puts_list}
use Rattle.md_examine_commands.proofs.scan.scan_object.missing.Goals as goal

pub returns : goal.returns
returns g c =
    puts_list g.S.Sink.contents g.S.Sink.failed whole (codes "missing") (filter (is_unseen_role c.args.v.now c.args.all.now) (range_with_len 0 c.args.v.now.raid_disks)) c.in_ok-next_key.ensures c.in_ok-put.ensures c.in_ok-missing_elements.ensures c.in_ok-put-2.ensures
