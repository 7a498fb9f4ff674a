use Rattle.std.proofs.Common.{◌≡◌, false, take}
use Rattle.md_streams.specs.Sink.{Puts}
use Rattle.md_report.specs.AsJson.Objects.{elements_text}
use Rattle.md_report.specs.AsJson.Rebuilds.PlanObject.{slot_object}
use Rattle.md_report.proofs.JsonLemmas.Texts.{is_later}
use Rattle.md_report.proofs.as_json.rebuilds.plan_object.slot_elements.Given as goal

abbrev pub invariant-loop-slot : goal.invariant-loop-slot
invariant-loop-slot g l = record {
  puts : Puts g.S.Sink.contents g.S.Sink.failed l.fn.out l.out (elements_text slot_object false (take l.slot-index l.slots));
  later : l.later ≡ is_later false l.slot-index;
}
