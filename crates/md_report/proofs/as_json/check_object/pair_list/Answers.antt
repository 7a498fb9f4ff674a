use Rattle.std.proofs.Common.{codes}
use Rattle.md_report.specs.AsJson.CheckObject.{pair_value, pairs_in}
use Rattle.md_report.proofs.JsonLemmas.Texts.{puts_list}
use Rattle.md_report.proofs.as_json.check_object.pair_list.Goals as goal

pub returns : goal.returns
returns g c = puts_list g.S.Sink.contents g.S.Sink.failed pair_value (codes "pairs") (pairs_in c.args.c c.args.pairs.now) c.in_ok-next_key.ensures c.in_ok-put.ensures c.in_ok-pair_elements.ensures c.in_ok-put-2.ensures
