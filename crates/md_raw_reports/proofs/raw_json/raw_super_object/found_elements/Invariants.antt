use Rattle.std.proofs.Common.{◌≡◌, false, length, take}
use Rattle.std.specs.List.{filter}
use Rattle.md_streams.specs.Sink.{Puts}
use Rattle.md_report.specs.AsJson.Objects.{elements_text}
use Rattle.md_raw_reports.specs.RawJson.RawSuper.{found_object, is_found}
use Rattle.md_report.proofs.JsonLemmas.Texts.{is_later}
use Rattle.md_raw_reports.proofs.raw_json.raw_super_object.found_elements.Given as goal

abbrev pub invariant-loop-place : goal.invariant-loop-place
invariant-loop-place g l = record {
  puts : Puts g.S.Sink.contents g.S.Sink.failed l.fn.out l.out (elements_text found_object false (filter is_found (take l.place-index l.found)));
  later : l.later ≡ is_later false (length (filter is_found (take l.place-index l.found)));
}
