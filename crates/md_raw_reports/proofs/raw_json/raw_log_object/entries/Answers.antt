use Rattle.md_report.specs.AsJson.Objects.{later_text}
use Rattle.md_raw_reports.specs.RawJson.RawLog.{area_fields}
use Rattle.md_streams.proofs.Puts.{puts_then}
use Rattle.md_report.proofs.JsonLemmas.Texts.{puts_last}
use Rattle.md_raw_reports.proofs.raw_json.raw_log_object.entries.Goals as goal

pub returns : goal.returns
unfolding later_text area_fields
returns g c = puts_then g.S.Sink.contents g.S.Sink.failed c.in_ok-next_lost.ensures (puts_last g.S.Sink.contents g.S.Sink.failed c.in_ok-next_entries.ensures)
