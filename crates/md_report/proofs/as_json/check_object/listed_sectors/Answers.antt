use Rattle.md_report.specs.AsJson.CheckObject.{listed_fields}
use Rattle.md_report.specs.AsJson.Objects.{later_text}
use Rattle.md_report.proofs.JsonLemmas.Texts.{puts_last}
use Rattle.md_report.proofs.as_json.check_object.listed_sectors.Goals as goal

pub returns : goal.returns
unfolding later_text listed_fields
returns g c = puts_last g.S.Sink.contents g.S.Sink.failed c.in_ok-bad_sectors.ensures
