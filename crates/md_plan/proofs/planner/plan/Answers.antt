use Rattle.std.proofs.Common.{IfOk, List, subst}
use Rattle.std.proofs.lemmas.Result.{IfOk-weaker}
use Rattle.md_cert.specs.declared.table.Row.{Row}
use Rattle.md_cert.specs.Plans.{IsCertified}
use Rattle.md_cert.proofs.Law.{certified_least}
use Rattle.md_cert.proofs.Order.{certified_yes}
use Rattle.md_cert.specs.declared.planned.Planned.{Planned}
use Rattle.md_plan.proofs.planner.plan.Goals as goal

pub returns-clause-least : goal.returns-clause-least
returns-clause-least c =
    let certified : IfOk c.plan_rows.result (λ p. IsCertified c.args.table.now p.plan p.certificate) =
    subst (λ (t : List Row). IfOk c.plan_rows.result (λ p. IsCertified t p.plan p.certificate)) c.rows.ensures.rows c.plan_rows.ensures.certified in
    IfOk-weaker c.plan_rows.result _ _ (λ (p : Planned) h. certified_least c.args.table.now p.plan p.certificate c.rows.ensures.rising h) certified

pub returns-clause-yes : goal.returns-clause-yes
returns-clause-yes c =
    let certified : IfOk c.plan_rows.result (λ p. IsCertified c.args.table.now p.plan p.certificate) =
    subst (λ (t : List Row). IfOk c.plan_rows.result (λ p. IsCertified t p.plan p.certificate)) c.rows.ensures.rows c.plan_rows.ensures.certified in
    IfOk-weaker c.plan_rows.result _ _ (λ (p : Planned) h. certified_yes c.args.table.now p.plan p.certificate h) certified
