use Rattle.md_report.specs.AsJson.Objects.{later_text}
use Rattle.md_report.specs.AsJson.CheckObject.{count_fields}
use Rattle.md_report.proofs.JsonLemmas.Texts.{puts_last}
use Rattle.md_report.proofs.as_json.check_object.mismatch_counts.Goals as goal

pub returns : goal.returns
unfolding later_text count_fields
returns g c =
    let its = c.in_ok-next_number.ensures in
    let its = rw (c.count.ensures) at its in
    puts_last g.S.Sink.contents g.S.Sink.failed its
