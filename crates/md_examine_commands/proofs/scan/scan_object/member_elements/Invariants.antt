use Rattle.std.proofs.Common.{◌≡◌, false, length, take}
use Rattle.std.specs.List.{filter}
use Rattle.md_streams.specs.Sink.{Puts}
use Rattle.md_report.specs.AsJson.Objects.{elements_text}
use Rattle.md_examine_commands.specs.ScanObject.{scan_member_object}
use Rattle.md_examine_commands.specs.ScanText.{is_same_array}
use Rattle.md_report.proofs.JsonLemmas.Texts.{is_later}
use Rattle.md_examine_commands.proofs.scan.scan_object.member_elements.Given as goal

abbrev pub invariant-loop-seen : goal.invariant-loop-seen
invariant-loop-seen g l = record {
  puts : Puts g.S.Sink.contents g.S.Sink.failed l.fn.out l.out (elements_text (scan_member_object l.v) false (filter (is_same_array l.v) (take l.seen-index l.all)));
  later : l.later ≡ is_later false (length (filter (is_same_array l.v) (take l.seen-index l.all)));
}
