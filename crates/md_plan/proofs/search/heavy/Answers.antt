use Rattle.std.proofs.Common.{◌∙◌, ◌<◌, ◌≤◌, get_or, sym, ap, subst, arith, inl, inr}
use Rattle.std.proofs.lemmas.Bool.{cases_eq, both_ways}
use Rattle.md_cert.specs.Sources.{has}
use Rattle.md_cert.proofs.Bits.{has_zero, has_set_same, has_set_other}
use Rattle.md_plan.proofs.SourceBits.{some_source}
use Rattle.md_plan.proofs.search.heavy.Goals as goal
use Rattle.md_plan.proofs.search.heavy.Goals.{then-loads-source, else-loads-source}

pub loop-source-init : goal.loop-source-init
loop-source-init c = record { above = λ s it. absurd (both_ways (has 0 s) (has_zero s) it); all = λ s less above. absurd (omega arith) }

pub loop-source-preserved : goal.loop-source-preserved
loop-source-preserved c =
    let i = c.loop-source.source in
    let old = c.loop-source.sources in
    let new = c.if-loads-source.sources in
    let within : i < 32 = c.loop-source-test.true in
    elim c.if-loads-source.branch [
      | then-loads-source w ↦ record {
        above = λ s it. elim (cases_eq s i) [
          | inl same ↦ subst (λ n. c.args.bound < get_or c.args.loads.now n 0) (sym same) w.if-loads-source.true
          | inr other ↦ c.loop-source.invariant.above s (sym (ap (λ n. has n s) w.sources-is ∙ has_set_other old i s within other) ∙ it)
        ];
        all = λ s less above. elim (cases_eq s i) [
          | inl same ↦ ap (has new) same ∙ ap (λ n. has n i) w.sources-is ∙ has_set_same old i within
          | inr other ↦ ap (λ n. has n s) w.sources-is ∙ has_set_other old i s within other ∙ c.loop-source.invariant.all s (omega arith) above
        ];
      }
      | else-loads-source w ↦ record {
        above = λ s it. c.loop-source.invariant.above s (sym (ap (λ n. has n s) w.sources-is) ∙ it);
        all = λ s less above. elim (cases_eq s i) [
          | inl same ↦ absurd (let le = w.if-loads-source.false in let more : c.args.bound < get_or c.args.loads.now i 0 = subst (λ n. c.args.bound < get_or c.args.loads.now n 0) same above in omega (arith, le, more))
          | inr other ↦ ap (λ n. has n s) w.sources-is ∙ c.loop-source.invariant.all s (omega arith) above
        ];
      }
    ]

pub returns : goal.returns
returns c = record {
  above = c.loop-source.invariant.above;
  all = λ s less above. let end : 32 ≤ c.loop-source.source = c.loop-source-test.false in c.loop-source.invariant.all s (omega arith) above;
  some = λ some. some_source c.loop-source.sources some c.loop-source.auto.sources-fits.fits;
}
