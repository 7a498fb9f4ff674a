use Rattle.std.proofs.Common.{◌∙◌, arith, sym}
use Rattle.md_commands.proofs.Lacked.{lacks_none, lacks_one}
use Rattle.md_commands.proofs.rebuilding.chunks_lacked.Goals as goal
use Rattle.md_commands.proofs.rebuilding.chunks_lacked.Goals.{then-is_missing, else-is_missing}

pub loop-chunk-preserved : goal.loop-chunk-preserved
loop-chunk-preserved g c =
    let a = c.args.mirror.now.array in
    let n = c.loop-chunk.chunk in
    let many = c.loop-chunk.count in
    let first = c.loop-chunk.first in
    let before = c.loop-chunk.invariant in
    let few = before.few in
    elim c.if-is_missing.branch [
      | then-is_missing w ↦
          let is = w.count-is in
          record {
            count = λ m at. is ∙ (lacks_one a m n many first (before.count m at) (before.first_is m at) (sym (c.is_missing.ensures m at) ∙ w.if-is_missing.true)).0;
            first_is = λ m at. w.first-is ∙ w.or-first.ensures ∙ (lacks_one a m n many first (before.count m at) (before.first_is m at) (sym (c.is_missing.ensures m at) ∙ w.if-is_missing.true)).1;
            few = omega arith;
          }
      | else-is_missing w ↦
          let is = w.count-is in
          record {
            count = λ m at. is ∙ (lacks_none a m n many first (before.count m at) (before.first_is m at) (sym (c.is_missing.ensures m at) ∙ w.if-is_missing.false)).0;
            first_is = λ m at. w.first-is ∙ (lacks_none a m n many first (before.count m at) (before.first_is m at) (sym (c.is_missing.ensures m at) ∙ w.if-is_missing.false)).1;
            few = omega arith;
          }
    ]
