use Rattle.std.proofs.Common.{◌∙◌, ℕ, List, ap}
use Rattle.md_bitmap.specs.Marks.{is_set}
use Rattle.md_bitmap.proofs.Blocks.{sector_bit}
use Rattle.md_bitmap.proofs.marks.Marks.block.Goals as goal

pub returns-clause-bits : goal.returns-clause-bits
returns-clause-bits c j low from =
    ap (λ (xs : List ℕ). is_set xs j) c.put_blocks.ensures.bytes
    ∙ sector_bit c.args.header.now c.args.self.now c.args.i j c.put_blocks.ensures.header low from
