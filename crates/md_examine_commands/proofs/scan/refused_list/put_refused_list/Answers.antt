use Rattle.std.proofs.Common.{codes}
use Rattle.std.specs.List.{filter}
use Rattle.md_examine_commands.specs.Unshown.{is_told_why, unshown_object}
use Rattle.md_report.proofs.JsonLemmas.Texts.{puts_list}
use Rattle.md_examine_commands.proofs.scan.refused_list.put_refused_list.Goals as goal

pub returns : goal.returns
returns g c =
    puts_list g.S.Sink.contents g.S.Sink.failed unshown_object (codes "refused") (filter (is_told_why c.args.is_named) c.args.all.now) c.in_ok-next_key.ensures c.in_ok-put.ensures c.in_ok-refused_elements.ensures c.in_ok-put-2.ensures
