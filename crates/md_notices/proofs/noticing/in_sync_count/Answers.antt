use Rattle.std.proofs.Common.{ℕ, ◌+◌, ◌<◌, length, arith, ◌∙◌, ap, sym}
use Rattle.md_notices.proofs.Members.{no_more, one_more}
use Rattle.md_notices.proofs.noticing.in_sync_count.Goals as goal
use Rattle.md_notices.proofs.noticing.in_sync_count.Goals.{then-is_in_sync, else-is_in_sync}

pub loop-k-preserved : goal.loop-k-preserved
loop-k-preserved g c =
    let inside : c.loop-k.k < length c.args.mirror.now.array.members = omega arith in
    elim c.if-is_in_sync.branch [
      | then-is_in_sync w ↦
          let more = one_more c.args.mirror.now.array.members c.loop-k.k c.state.result inside c.state.ensures (sym c.is_in_sync.ensures ∙ w.if-is_in_sync.true) in
          record { counted = w.count-is ∙ ap (λ (n : ℕ). n + 1) c.loop-k.invariant.counted ∙ sym more; few = omega arith }
      | else-is_in_sync w ↦
          let more = no_more c.args.mirror.now.array.members c.loop-k.k c.state.result inside c.state.ensures (sym c.is_in_sync.ensures ∙ w.if-is_in_sync.false) in
          record { counted = w.count-is ∙ c.loop-k.invariant.counted ∙ sym more; few = omega arith }
    ]
