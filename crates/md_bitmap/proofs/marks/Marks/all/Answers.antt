use Rattle.std.proofs.Common.{◌≡◌, ℕ, Vec, Global, replicate, ap}
use Rattle.md_bitmap.proofs.Bits.{is_set-all, is_set-all_but_rest}
use Rattle.md_bitmap.proofs.marks.Marks.all.Goals as goal
use Rattle.md_bitmap.proofs.marks.Marks.all.Goals.{then-rest-gt0, else-rest-gt0}

pub returns-clause-bits : goal.returns-clause-bits
returns-clause-bits c i =
    let made : c.in_ok-bits.bits.items ≡ replicate c.div_ceil.result 255 = c.in_ok-bits.ensures.items_if_clones_equal (λ y e. e) in
    elim c.if-rest-gt0.branch [
      | then-rest-gt0 w ↦
          let written = ap (λ (v : Vec ℕ Global). v.items) w.bits-is in
          rw (written, made) (is_set-all_but_rest c.args.chunks c.div_ceil.result i c.div_ceil.ensures w.if-rest-gt0.true)
      | else-rest-gt0 w ↦
          let kept = ap (λ (v : Vec ℕ Global). v.items) w.bits-is in
          rw (kept, made) (is_set-all c.args.chunks c.div_ceil.result i c.div_ceil.ensures w.if-rest-gt0.false)
    ]
