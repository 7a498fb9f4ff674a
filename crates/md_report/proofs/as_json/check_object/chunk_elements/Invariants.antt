use Rattle.std.proofs.Common.{◌≡◌, false, length}
use Rattle.md_streams.specs.Sink.{Puts}
use Rattle.md_report.specs.AsJson.Objects.{elements_text}
use Rattle.md_report.specs.AsJson.CheckObject.{chunk_object, chunks_to}
use Rattle.md_report.proofs.JsonLemmas.Texts.{is_later}
use Rattle.md_report.proofs.as_json.check_object.chunk_elements.Given as goal

abbrev pub invariant-loop-c : goal.invariant-loop-c
invariant-loop-c g l = record {
  puts : Puts g.S.Sink.contents g.S.Sink.failed l.fn.out l.out (elements_text (chunk_object l.chunks l.found.pairs.items) false (chunks_to l.found.chunks l.c));
  later : l.later ≡ is_later false (length (chunks_to l.found.chunks l.c));
}
