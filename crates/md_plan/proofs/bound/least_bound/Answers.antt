use Rattle.std.proofs.Common.{◌≡◌, ◌∙◌, ◌+◌, ◌-◌, ◌*◌, ◌/◌, ◌<◌, ◌≤◌, ℕ, get_or, sym, ap, arith}
use Rattle.md_cert.specs.Sources.{has, count_below, count_sources}
use Rattle.md_cert.proofs.Counting.{below_zero, below_next, sources_are}
use Rattle.md_plan.specs.Bounds.{sum_below, sum_sources}
use Rattle.md_plan.proofs.SourceSums.{sum_zero, sum_next, sum_same, sum_more, sum_sources_are, ceil_enough, ceil_needed}
use Rattle.md_plan.proofs.CellMoves.{along}
use Rattle.md_plan.proofs.bound.least_bound.Goals as goal
use Rattle.md_plan.proofs.bound.least_bound.Goals.{then-has_source, else-has_source}

pub loop-source-init : goal.loop-source-init
loop-source-init c = record { summed = sym (sum_zero (has c.args.sources) (λ s. get_or c.args.loads.now s 0)); counted = sym (below_zero (has c.args.sources)); few = omega arith }

pub overflow_add-sum : goal.overflow_add-sum
overflow_add-sum c =
    let p = has c.args.sources in
    let f : ℕ → ℕ = λ s. get_or c.args.loads.now s 0 in
    let next = sum_next p f c.loop-source.source c.loop-source.sum (sym c.has_source.ensures ∙ c.if-has_source.true) c.loop-source.invariant.summed in
    let le = sum_more p f (c.loop-source.source + 1) 32 (omega arith) in
    let is = sum_sources_are c.args.sources c.args.loads.now in
    let small = c.requires.small in
    record { fits = omega (arith, next, le, is, small) }

pub loop-source-preserved : goal.loop-source-preserved
loop-source-preserved c =
    let p = has c.args.sources in
    let f : ℕ → ℕ = λ s. get_or c.args.loads.now s 0 in
    elim c.if-has_source.branch [
      | then-has_source w ↦
          let holds = sym c.has_source.ensures ∙ w.if-has_source.true in
          record {
            summed = w.sum-is ∙ sum_next p f c.loop-source.source c.loop-source.sum holds c.loop-source.invariant.summed;
            counted = below_next p c.loop-source.source _ _ holds (let e = w.number-is in let n = c.loop-source.invariant.counted in omega (arith, e, n));
            few = omega arith;
          }
      | else-has_source w ↦
          let fails = sym c.has_source.ensures ∙ w.if-has_source.false in
          record {
            summed = w.sum-is ∙ sum_same p f c.loop-source.source c.loop-source.sum fails c.loop-source.invariant.summed;
            counted = below_next p c.loop-source.source _ _ fails (let e = w.number-is in let n = c.loop-source.invariant.counted in omega (arith, e, n));
            few = omega arith;
          }
    ]

pub overflow_add-result : goal.overflow_add-result
overflow_add-result c =
    let p = has c.args.sources in
    let f : ℕ → ℕ = λ s. get_or c.args.loads.now s 0 in
    let end : c.loop-source.source ≡ 32 = omega arith in
    let sum_is : c.loop-source.sum ≡ sum_sources c.args.sources c.args.loads.now = c.loop-source.invariant.summed ∙ ap (sum_below p f) end ∙ sym (sum_sources_are c.args.sources c.args.loads.now) in
    let number_is : c.loop-source.number ≡ count_sources p = c.loop-source.invariant.counted ∙ ap (count_below p) end ∙ sym (sources_are p) in
    let small = c.requires.small in
    let some = c.requires.some in
    let few = c.loop-source.invariant.few in
    record { fits = omega (arith, sum_is, small, few) }

pub overflow_sub-result : goal.overflow_sub-result
overflow_sub-result c =
    let p = has c.args.sources in
    let f : ℕ → ℕ = λ s. get_or c.args.loads.now s 0 in
    let end : c.loop-source.source ≡ 32 = omega arith in
    let sum_is : c.loop-source.sum ≡ sum_sources c.args.sources c.args.loads.now = c.loop-source.invariant.summed ∙ ap (sum_below p f) end ∙ sym (sum_sources_are c.args.sources c.args.loads.now) in
    let number_is : c.loop-source.number ≡ count_sources p = c.loop-source.invariant.counted ∙ ap (count_below p) end ∙ sym (sources_are p) in
    let small = c.requires.small in
    let some = c.requires.some in
    omega (arith, number_is, some)

pub nonzero_div-result : goal.nonzero_div-result
nonzero_div-result c =
    let p = has c.args.sources in
    let f : ℕ → ℕ = λ s. get_or c.args.loads.now s 0 in
    let end : c.loop-source.source ≡ 32 = omega arith in
    let sum_is : c.loop-source.sum ≡ sum_sources c.args.sources c.args.loads.now = c.loop-source.invariant.summed ∙ ap (sum_below p f) end ∙ sym (sum_sources_are c.args.sources c.args.loads.now) in
    let number_is : c.loop-source.number ≡ count_sources p = c.loop-source.invariant.counted ∙ ap (count_below p) end ∙ sym (sources_are p) in
    let small = c.requires.small in
    let some = c.requires.some in
    omega (arith, number_is, some)

pub returns-clause-enough : goal.returns-clause-enough
returns-clause-enough c =
    let p = has c.args.sources in
    let f : ℕ → ℕ = λ s. get_or c.args.loads.now s 0 in
    let end : c.loop-source.source ≡ 32 = omega arith in
    let sum_is : c.loop-source.sum ≡ sum_sources c.args.sources c.args.loads.now = c.loop-source.invariant.summed ∙ ap (sum_below p f) end ∙ sym (sum_sources_are c.args.sources c.args.loads.now) in
    let number_is : c.loop-source.number ≡ count_sources p = c.loop-source.invariant.counted ∙ ap (count_below p) end ∙ sym (sources_are p) in
    let small = c.requires.small in
    let some = c.requires.some in
    let positive : 0 < c.loop-source.number = omega (arith, number_is, some) in
    along (λ s n. s ≤ (c.loop-source.sum + c.loop-source.number - 1) / c.loop-source.number * n) _ _ _ _ sum_is number_is (ceil_enough c.loop-source.sum c.loop-source.number positive)

pub returns-clause-needed : goal.returns-clause-needed
returns-clause-needed c =
    let p = has c.args.sources in
    let f : ℕ → ℕ = λ s. get_or c.args.loads.now s 0 in
    let end : c.loop-source.source ≡ 32 = omega arith in
    let sum_is : c.loop-source.sum ≡ sum_sources c.args.sources c.args.loads.now = c.loop-source.invariant.summed ∙ ap (sum_below p f) end ∙ sym (sum_sources_are c.args.sources c.args.loads.now) in
    let number_is : c.loop-source.number ≡ count_sources p = c.loop-source.invariant.counted ∙ ap (count_below p) end ∙ sym (sources_are p) in
    let small = c.requires.small in
    let some = c.requires.some in
    let positive : 0 < c.loop-source.number = omega (arith, number_is, some) in
    along (λ s n. (c.loop-source.sum + c.loop-source.number - 1) / c.loop-source.number * n < s + n) _ _ _ _ sum_is number_is (ceil_needed c.loop-source.sum c.loop-source.number positive)
