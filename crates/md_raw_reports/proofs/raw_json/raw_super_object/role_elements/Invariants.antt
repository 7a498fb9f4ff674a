use Rattle.std.proofs.Common.{◌≡◌, false, length}
use Rattle.std.specs.List.{filter, range_with_len}
use Rattle.md_streams.specs.Sink.{Puts}
use Rattle.md_report.specs.AsJson.Objects.{elements_text}
use Rattle.md_raw_reports.specs.RawJson.RawSuper.{has_role, role_object}
use Rattle.md_report.proofs.JsonLemmas.Texts.{is_later}
use Rattle.md_raw_reports.proofs.raw_json.raw_super_object.role_elements.Given as goal

abbrev pub invariant-loop-number : goal.invariant-loop-number
invariant-loop-number g l = record {
  puts : Puts g.S.Sink.contents g.S.Sink.failed l.fn.out l.out (elements_text (role_object l.bytes) false (filter (has_role l.bytes) (range_with_len 0 l.number)));
  later : l.later ≡ is_later false (length (filter (has_role l.bytes) (range_with_len 0 l.number)));
}
