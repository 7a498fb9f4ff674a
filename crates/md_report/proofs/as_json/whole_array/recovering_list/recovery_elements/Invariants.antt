use Rattle.std.proofs.Common.{◌≡◌, false, length, take}
use Rattle.md_streams.specs.Sink.{Puts}
use Rattle.md_report.specs.Recovery.{recoveries}
use Rattle.md_report.specs.AsJson.Objects.{elements_text}
use Rattle.md_report.specs.AsJson.WholeArray.RecoveringList.{recovery_object}
use Rattle.md_report.proofs.JsonLemmas.Texts.{is_later}
use Rattle.md_report.proofs.as_json.whole_array.recovering_list.recovery_elements.Given as goal

abbrev pub invariant-loop-k : goal.invariant-loop-k
invariant-loop-k g l = record {
  puts : Puts g.S.Sink.contents g.S.Sink.failed l.fn.out l.out (elements_text recovery_object false (recoveries l.mirror.array 0 (take l.k l.mirror.array.members)));
  later : l.later ≡ is_later false (length (recoveries l.mirror.array 0 (take l.k l.mirror.array.members)));
}
