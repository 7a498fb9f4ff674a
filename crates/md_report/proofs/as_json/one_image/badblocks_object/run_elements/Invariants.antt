use Rattle.std.proofs.Common.{◌≡◌, false, take}
use Rattle.md_streams.specs.Sink.{Puts}
use Rattle.md_report.specs.AsJson.Objects.{elements_text}
use Rattle.md_report.specs.AsJson.OneImage.BadblocksObject.{run_object}
use Rattle.md_report.proofs.JsonLemmas.Texts.{is_later}
use Rattle.md_report.proofs.as_json.one_image.badblocks_object.run_elements.Given as goal

abbrev pub invariant-loop-run : goal.invariant-loop-run
invariant-loop-run g l = record {
  puts : Puts g.S.Sink.contents g.S.Sink.failed l.fn.out l.out (elements_text run_object false (take l.run-index l.runs));
  later : l.later ≡ is_later false l.run-index;
}
