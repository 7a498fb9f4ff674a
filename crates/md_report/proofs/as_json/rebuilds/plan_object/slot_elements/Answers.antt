use Rattle.std.proofs.Common.{ℕ, false, List, ap, refl, subst, arith, rules}
use Rattle.std.proofs.lemmas.List.{take_all}
use Rattle.md_streams.specs.Sink.{Puts}
use Rattle.md_streams.proofs.Puts.{puts_then, puts_nothing}
use Rattle.md_report.specs.AsJson.Objects.{elements_text}
use Rattle.md_report.specs.AsJson.Rebuilds.PlanObject.{slot_object}
use Rattle.md_report.proofs.JsonLemmas.Texts.{element_at, later_next}
use Rattle.md_report.proofs.as_json.rebuilds.plan_object.slot_elements.Goals as goal

pub loop-slot-init : goal.loop-slot-init
unfolding elements_text
loop-slot-init g c = record { puts = puts_nothing g.S.Sink.contents g.S.Sink.failed c.args.out.now; later = refl }

pub loop-slot-preserved : goal.loop-slot-preserved
loop-slot-preserved g c =
    let P : List ℕ → Type 0 = λ t. Puts g.S.Sink.contents g.S.Sink.failed c.args.out.now c.slot_element.new.out t in
    let own = c.in_ok-slot_element.ensures in
    let own = rw (c.loop-slot.invariant.later) at own in
    record {
      puts = subst P (element_at slot_object false c.args.slots.now c.loop-slot.slot-index _ c.loop-slot-test.true) (puts_then g.S.Sink.contents g.S.Sink.failed c.loop-slot.invariant.puts own);
      later = later_next false c.loop-slot.slot-index;
    }

pub returns : goal.returns
returns g c =
    let P : List ℕ → Type 0 = λ t. Puts g.S.Sink.contents g.S.Sink.failed c.args.out.now c.loop-slot.out t in
    subst P (ap (elements_text slot_object false) (take_all c.loop-slot.slot-index c.args.slots.now (search (rules, arith)))) c.loop-slot.invariant.puts
