use Rattle.std.proofs.Common.{◌∙◌, arith, sym}
use Rattle.md_notices.proofs.UngivenLists.{ungiven_more, ungiven_same}
use Rattle.md_notices.proofs.ungiven_chunks.find_ungiven.Goals as goal
use Rattle.md_notices.proofs.ungiven_chunks.find_ungiven.Goals.{then-is_ungiven, else-is_ungiven}

pub loop-chunk-preserved : goal.loop-chunk-preserved
loop-chunk-preserved g c =
    let a = c.args.mirror.now.array in
    let n = c.loop-chunk.chunk in
    let many = c.loop-chunk.count in
    let first = c.loop-chunk.first in
    let before = c.loop-chunk.invariant in
    let few = before.few in
    elim c.if-is_ungiven.branch [
      | then-is_ungiven w ↦
          let is = w.count-is in
          record {
            count = λ m at. is ∙ (ungiven_more a m n many first (before.count m at) (before.first_is m at) (sym (c.is_ungiven.ensures m at) ∙ w.if-is_ungiven.true)).0;
            first_is = λ m at. w.first-is ∙ w.or-first.ensures ∙ (ungiven_more a m n many first (before.count m at) (before.first_is m at) (sym (c.is_ungiven.ensures m at) ∙ w.if-is_ungiven.true)).1;
            few = omega arith;
          }
      | else-is_ungiven w ↦
          let is = w.count-is in
          record {
            count = λ m at. is ∙ (ungiven_same a m n many first (before.count m at) (before.first_is m at) (sym (c.is_ungiven.ensures m at) ∙ w.if-is_ungiven.false)).0;
            first_is = λ m at. w.first-is ∙ (ungiven_same a m n many first (before.count m at) (before.first_is m at) (sym (c.is_ungiven.ensures m at) ∙ w.if-is_ungiven.false)).1;
            few = omega arith;
          }
    ]
