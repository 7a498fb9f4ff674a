use Rattle.std.proofs.Common.{codes}
use Rattle.std.specs.List.{filter}
use Rattle.md_raw_reports.specs.RawJson.RawLog.{entry_object, is_entry}
use Rattle.md_raw_reports.specs.LogFields.{entries_there}
use Rattle.md_report.proofs.JsonLemmas.Texts.{puts_list}
use Rattle.md_raw_reports.proofs.raw_json.raw_log_object.next_entries.Goals as goal

pub returns : goal.returns
returns g c = puts_list g.S.Sink.contents g.S.Sink.failed (entry_object c.args.area.now) (codes "entries") (filter (is_entry c.args.area.now) (entries_there c.args.area.now)) c.in_ok-next_key.ensures c.in_ok-put.ensures c.in_ok-entry_elements.ensures c.in_ok-put-2.ensures
