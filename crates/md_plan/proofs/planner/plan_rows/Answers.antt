use Rattle.std.proofs.Common.{◌∙◌, sym, subst}
use Rattle.md_plan.specs.Slots.{AreGivenOut}
use Rattle.md_plan.proofs.Certified.{certified}
use Rattle.md_plan.proofs.planner.plan_rows.Goals as goal

pub returns-clause-certified : goal.returns-clause-certified
returns-clause-certified c =
    certified c.args.rows.now c.requires.table.rising c.level.new.cells.items c.balance.new.cells.items c.balance.new.loads c.in_ok-bound.bound c.from_vec.result c.in_ok-slots.field-0.orphans.items c.in_ok-certificate.certificate
    (λ q. c.in_ok-level.ensures.counts q ∙ c.choose_sources-chosen.ensures.counts q ∙ c.in_ok-cells.ensures.counts q)
    c.in_ok-bound.ensures (subst (λ xs. AreGivenOut c.args.rows.now c.balance.new.cells.items xs c.in_ok-slots.field-0.orphans.items) (sym c.from_vec.ensures) c.in_ok-slots.ensures) c.in_ok-certificate.ensures.rounds c.in_ok-certificate.ensures.none c.in_ok-certificate.ensures.chunks
