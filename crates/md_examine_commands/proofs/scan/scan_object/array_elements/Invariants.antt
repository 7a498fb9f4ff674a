use Rattle.std.proofs.Common.{◌≡◌, false, length}
use Rattle.std.specs.List.{filter, range_with_len}
use Rattle.md_streams.specs.Sink.{Puts}
use Rattle.md_report.specs.AsJson.Objects.{elements_text}
use Rattle.md_examine_commands.specs.ScanObject.{array_at_value, is_first_at}
use Rattle.md_report.proofs.JsonLemmas.Texts.{is_later}
use Rattle.md_examine_commands.proofs.scan.scan_object.array_elements.Given as goal

abbrev pub invariant-loop-place : goal.invariant-loop-place
invariant-loop-place g l = record {
  puts : Puts g.S.Sink.contents g.S.Sink.failed l.fn.out l.out (elements_text (array_at_value l.all) false (filter (is_first_at l.all) (range_with_len 0 l.place)));
  later : l.later ≡ is_later false (length (filter (is_first_at l.all) (range_with_len 0 l.place)));
}
