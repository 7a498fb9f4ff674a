use Rattle.std.proofs.Common.{codes}
use Rattle.std.specs.List.{filter}
use Rattle.md_report.specs.AsJson.Objects.{later_text}
use Rattle.md_raw_reports.specs.RawJson.RawSuper.{found_fields, found_object, is_found}
use Rattle.md_report.proofs.JsonLemmas.Texts.{puts_last, puts_list}
use Rattle.md_raw_reports.proofs.raw_json.raw_super_object.elsewhere.Goals as goal

pub returns : goal.returns
unfolding later_text found_fields
returns g c = puts_last g.S.Sink.contents g.S.Sink.failed (puts_list g.S.Sink.contents g.S.Sink.failed found_object (codes "elsewhere") (filter is_found c.args.found.now) c.in_ok-next_key.ensures c.in_ok-put.ensures c.in_ok-found_elements.ensures c.in_ok-put-2.ensures)
