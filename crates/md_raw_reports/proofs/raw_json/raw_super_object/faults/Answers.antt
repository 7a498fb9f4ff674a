use Rattle.md_report.specs.AsJson.Objects.{later_text}
use Rattle.md_raw_reports.specs.RawJson.RawSuper.{fault_fields}
use Rattle.md_streams.proofs.Puts.{puts_then}
use Rattle.md_report.proofs.JsonLemmas.Texts.{puts_last}
use Rattle.md_raw_reports.proofs.raw_json.raw_super_object.faults.Goals as goal

pub returns : goal.returns
unfolding later_text fault_fields
returns g c =
    let own = c.in_ok-next_number.ensures in
    let own = rw (c.unsupported_features.ensures) at own in
    puts_then g.S.Sink.contents g.S.Sink.failed c.in_ok-next_faults.ensures (puts_last g.S.Sink.contents g.S.Sink.failed own)
