use Rattle.std.proofs.Common.{ℕ, List, ap, subst, arith, rules}
use Rattle.std.specs.List.{flat_map}
use Rattle.std.proofs.lemmas.List.{take_all}
use Rattle.md_streams.specs.Sink.{Puts}
use Rattle.md_report.specs.AsText.Rebuilds.PlanReport.{slot_text}
use Rattle.md_streams.proofs.Puts.{puts_then, puts_nothing, flat_map_at}
use Rattle.md_report.proofs.as_text.rebuilds.plan_lines.slot_lines.Goals as goal

pub loop-slot-init : goal.loop-slot-init
loop-slot-init g c = puts_nothing g.S.Sink.contents g.S.Sink.failed c.args.out.now

pub loop-slot-preserved : goal.loop-slot-preserved
loop-slot-preserved g c =
    let P : List ℕ → Type 0 = λ t. Puts g.S.Sink.contents g.S.Sink.failed c.args.out.now c.slot_line.new.out t in
    subst P (flat_map_at slot_text c.args.slots.now c.loop-slot.slot-index _ c.loop-slot-test.true)
    (puts_then g.S.Sink.contents g.S.Sink.failed c.loop-slot.invariant c.in_ok-slot_line.ensures)

pub returns : goal.returns
returns g c =
    let P : List ℕ → Type 0 = λ t. Puts g.S.Sink.contents g.S.Sink.failed c.args.out.now c.loop-slot.out t in
    subst P (ap (flat_map slot_text) (take_all c.loop-slot.slot-index c.args.slots.now (search (rules, arith)))) c.loop-slot.invariant
