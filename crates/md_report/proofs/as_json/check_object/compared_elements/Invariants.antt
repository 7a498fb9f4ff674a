use Rattle.std.proofs.Common.{◌≡◌, false, length}
use Rattle.md_streams.specs.Sink.{Puts}
use Rattle.md_report.specs.AsJson.Objects.{elements_text, whole}
use Rattle.md_report.specs.AsJson.CheckObject.{compared_to}
use Rattle.md_report.proofs.JsonLemmas.Texts.{is_later}
use Rattle.md_report.proofs.as_json.check_object.compared_elements.Given as goal

abbrev pub invariant-loop-k : goal.invariant-loop-k
invariant-loop-k g l = record {
  puts : Puts g.S.Sink.contents g.S.Sink.failed l.fn.out l.out (elements_text whole false (compared_to l.mirror.array.members l.k));
  later : l.later ≡ is_later false (length (compared_to l.mirror.array.members l.k));
}
