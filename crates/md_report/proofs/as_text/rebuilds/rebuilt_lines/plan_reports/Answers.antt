use Rattle.std.proofs.Common.{ℕ, List, ap, subst, arith, rules}
use Rattle.std.specs.List.{flat_map}
use Rattle.std.proofs.lemmas.List.{take_all}
use Rattle.md_streams.specs.Sink.{Puts}
use Rattle.md_report.specs.AsText.Rebuilds.RebuiltReport.{planned_text}
use Rattle.md_streams.proofs.Puts.{puts_nothing}
use Rattle.md_report.proofs.as_text.rebuilds.rebuilt_lines.plan_reports.Goals as goal

pub loop-planned-init : goal.loop-planned-init
loop-planned-init g c = puts_nothing g.S.Sink.contents g.S.Sink.failed c.args.out.now

pub returns : goal.returns
returns g c =
    let P : List ℕ → Type 0 = λ t. Puts g.S.Sink.contents g.S.Sink.failed c.args.out.now c.loop-planned.out t in
    subst P (ap (flat_map planned_text) (take_all c.loop-planned.planned-index c.args.plans.now (search (rules, arith)))) c.loop-planned.invariant
