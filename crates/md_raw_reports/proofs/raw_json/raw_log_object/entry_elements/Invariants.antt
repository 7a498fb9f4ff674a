use Rattle.std.proofs.Common.{◌≡◌, false, length}
use Rattle.std.specs.List.{filter, range_with_len}
use Rattle.md_streams.specs.Sink.{Puts}
use Rattle.md_report.specs.AsJson.Objects.{elements_text}
use Rattle.md_raw_reports.specs.RawJson.RawLog.{entry_object, is_entry}
use Rattle.md_report.proofs.JsonLemmas.Texts.{is_later}
use Rattle.md_raw_reports.proofs.raw_json.raw_log_object.entry_elements.Given as goal

abbrev pub invariant-loop-place : goal.invariant-loop-place
invariant-loop-place g l = record {
  puts : Puts g.S.Sink.contents g.S.Sink.failed l.fn.out l.out (elements_text (entry_object l.area) false (filter (is_entry l.area) (range_with_len 0 l.place)));
  later : l.later ≡ is_later false (length (filter (is_entry l.area) (range_with_len 0 l.place)));
}
