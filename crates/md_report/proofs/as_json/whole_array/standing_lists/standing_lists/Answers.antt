use Rattle.md_streams.proofs.Puts.{puts_then}
use Rattle.md_report.specs.AsJson.Objects.{later_text}
use Rattle.md_report.specs.AsJson.WholeArray.StandingLists.{standing_fields}
use Rattle.md_report.proofs.JsonLemmas.Texts.{puts_last}
use Rattle.md_report.proofs.as_json.whole_array.standing_lists.standing_lists.Goals as goal

pub returns : goal.returns
unfolding later_text standing_fields
returns g c =
    puts_then g.S.Sink.contents g.S.Sink.failed c.in_ok-missing_roles.ensures (puts_then g.S.Sink.contents g.S.Sink.failed c.in_ok-used_apart.ensures (puts_last g.S.Sink.contents g.S.Sink.failed c.in_ok-bad_sectors.ensures))
