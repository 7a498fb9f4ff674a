use Rattle.std.proofs.Common.{◌≡◌, false, length}
use Rattle.md_streams.specs.Sink.{Puts}
use Rattle.md_report.specs.AsJson.Objects.{elements_text, whole}
use Rattle.md_report.specs.AsJson.WholeArray.StandingLists.{missing_to}
use Rattle.md_report.proofs.JsonLemmas.Texts.{is_later}
use Rattle.md_report.proofs.as_json.whole_array.standing_lists.missing_elements.Given as goal

abbrev pub invariant-loop-role : goal.invariant-loop-role
invariant-loop-role g l = record {
  puts : Puts g.S.Sink.contents g.S.Sink.failed l.fn.out l.out (elements_text whole false (missing_to l.mirror.array.members l.role));
  later : l.later ≡ is_later false (length (missing_to l.mirror.array.members l.role));
}
