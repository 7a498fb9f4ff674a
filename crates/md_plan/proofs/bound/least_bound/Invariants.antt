use Rattle.std.proofs.Common.{◌≡◌, ◌≤◌, get_or}
use Rattle.md_cert.specs.Sources.{has, count_below}
use Rattle.md_plan.specs.Bounds.{sum_below}
use Rattle.md_plan.proofs.bound.least_bound.Given as goal

abbrev pub invariant-loop-source : goal.invariant-loop-source
invariant-loop-source l = record {
  summed : l.sum ≡ sum_below (has l.sources) (λ s. get_or l.loads s 0) l.source;
  counted : l.number ≡ count_below (has l.sources) l.source;
  few : l.number ≤ l.source;
}
