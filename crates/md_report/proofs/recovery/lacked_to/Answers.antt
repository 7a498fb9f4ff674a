use Rattle.std.proofs.Common.{ℕ, ◌+◌, ◌∙◌, ap, arith, sym}
use Rattle.md_state.specs.Missing.{is_missing}
use Rattle.md_report.proofs.Recoveries.{counts_no_more, counts_one_more}
use Rattle.md_report.proofs.recovery.lacked_to.Goals as goal
use Rattle.md_report.proofs.recovery.lacked_to.Goals.{then-is_missing, else-is_missing}

pub loop-chunk-preserved : goal.loop-chunk-preserved
loop-chunk-preserved g c =
    let a = c.args.mirror.now.array in
    let n = c.loop-chunk.chunk in
    let before = c.loop-chunk.invariant in
    let few = before.few in
    elim c.if-is_missing.branch [
      | then-is_missing w ↦
          let is = w.count-is in
          record {
            count = λ m at. is ∙ ap (λ (x : ℕ). x + 1) (before.count m at) ∙ sym (counts_one_more (is_missing a m) n (sym (c.is_missing.ensures m at) ∙ w.if-is_missing.true));
            few = omega arith;
          }
      | else-is_missing w ↦
          let is = w.count-is in
          record {
            count = λ m at. is ∙ before.count m at ∙ sym (counts_no_more (is_missing a m) n (sym (c.is_missing.ensures m at) ∙ w.if-is_missing.false));
            few = omega arith;
          }
    ]
