use Rattle.md_bitmap.proofs.Bits.{is_set-zeros}
use Rattle.md_bitmap.proofs.marks.Marks.none.Goals as goal

pub returns-clause-bits : goal.returns-clause-bits
returns-clause-bits c i =
    let made = c.in_ok-vec.ensures.items_if_clones_equal (λ y e. e) in
    rw made (is_set-zeros c.div_ceil.result i)
