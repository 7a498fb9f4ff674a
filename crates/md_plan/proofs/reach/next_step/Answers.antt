use Rattle.std.proofs.Common.{◌≡◌, ◌∙◌, ◌<◌, ◌≤◌, true, get_or, sym, ap, arith, inl, inr}
use Rattle.std.proofs.lemmas.Bool.{cases_eq, both_ways}
use Rattle.md_cert.specs.Sources.{has}
use Rattle.md_cert.proofs.Bits.{has_below}
use Rattle.md_plan.proofs.reach.next_step.Goals as goal
use Rattle.md_plan.proofs.reach.next_step.Goals.{then-has_source+else-loop-to-test, else-has_source}

pub loop-from-preserved : goal.loop-from-preserved
loop-from-preserved c =
    let reach = c.args.reach.now in
    let from = c.loop-from.from in
    λ s t less seen step. elim (cases_eq s from) [
      | inl same ↦ elim c.if-has_source.branch [
        | then-has_source+else-loop-to-test w ↦
            let step' : has (get_or reach from 0) t ≡ true = ap (λ n. has (get_or reach n 0) t) (sym same) ∙ step in
            let within : t < 32 = has_below (get_or reach from 0) t step' in
            let end : 32 ≤ w.loop-to.to = w.loop-to-test.false in
            w.loop-to.invariant t (omega arith) step'
        | else-has_source w ↦ absurd (both_ways (has c.args.seen from) (sym c.has_source.ensures ∙ w.if-has_source.false) (ap (has c.args.seen) (sym same) ∙ seen))
      ]
      | inr other ↦ c.loop-from.invariant s t (omega arith) seen step
    ]

pub returns : goal.returns
returns c = λ s t seen step.
    let within : s < 32 = has_below c.args.seen s seen in
    let end : 32 ≤ c.loop-from.from = c.loop-from-test.false in
    c.loop-from.invariant s t (omega arith) seen step
