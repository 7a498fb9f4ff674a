use Rattle.std.proofs.Common.{ℕ, ◌+◌, ◌∙◌, ap, arith, sym}
use Rattle.md_report.specs.Recovery.{is_marked_before}
use Rattle.md_report.proofs.Recoveries.{counts_no_more, counts_one_more}
use Rattle.md_report.proofs.recovery.marked_to.Goals as goal
use Rattle.md_report.proofs.recovery.marked_to.Goals.{then-is_marked_before, else-is_marked_before}

pub loop-chunk-preserved : goal.loop-chunk-preserved
loop-chunk-preserved g c =
    let p = is_marked_before c.args.mirror.now.array c.args.sector in
    let n = c.loop-chunk.chunk in
    let before = c.loop-chunk.invariant in
    let few = before.few in
    elim c.if-is_marked_before.branch [
      | then-is_marked_before w ↦
          let is = w.count-is in
          record {
            count = is ∙ ap (λ (x : ℕ). x + 1) before.count ∙ sym (counts_one_more p n (sym c.is_marked_before.ensures ∙ w.if-is_marked_before.true));
            few = omega arith;
          }
      | else-is_marked_before w ↦
          let is = w.count-is in
          record {
            count = is ∙ before.count ∙ sym (counts_no_more p n (sym c.is_marked_before.ensures ∙ w.if-is_marked_before.false));
            few = omega arith;
          }
    ]
