use Rattle.std.proofs.Common.{codes}
use Rattle.md_examine_commands.specs.ScanObject.{array_at_value, first_places}
use Rattle.md_report.proofs.JsonLemmas.Texts.{puts_list}
use Rattle.md_examine_commands.proofs.scan.scan_object.put_arrays.Goals as goal

pub returns : goal.returns
returns g c = puts_list g.S.Sink.contents g.S.Sink.failed (array_at_value c.args.all.now) (codes "arrays") (first_places c.args.all.now) c.in_ok-next_key.ensures c.in_ok-put.ensures c.in_ok-array_elements.ensures c.in_ok-put-2.ensures
