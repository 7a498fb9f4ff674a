use Rattle.std.proofs.Common.{arith}
use Rattle.md_collect.proofs.Memory.{first_lent}
use Rattle.md_collect.proofs.workers.reports.Reports.first.Goals as goal

pub returns-clause-some : goal.returns-clause-some
returns-clause-some c =
    rw (← c.self.view_is) (first_lent (λ r. r.now) c.self.inside.waiting.items c.front.result c.front.ensures.lookup (λ some. let n = c.front.ensures.variant.0 some in let e = c.self.inside.waiting.ok.0 in omega (arith, n, e)))
