use Rattle.std.proofs.Common.{◌≡◌, false, length, take}
use Rattle.md_streams.specs.Sink.{Puts}
use Rattle.md_report.specs.AsJson.Objects.{elements_text}
use Rattle.md_report.specs.AsJson.CheckObject.{pair_value, pairs_in}
use Rattle.md_report.proofs.JsonLemmas.Texts.{is_later}
use Rattle.md_report.proofs.as_json.check_object.pair_elements.Given as goal

abbrev pub invariant-loop-pair : goal.invariant-loop-pair
invariant-loop-pair g l = record {
  puts : Puts g.S.Sink.contents g.S.Sink.failed l.fn.out l.out (elements_text pair_value false (pairs_in l.c (take l.pair-index l.pairs)));
  later : l.later ≡ is_later false (length (pairs_in l.c (take l.pair-index l.pairs)));
}
