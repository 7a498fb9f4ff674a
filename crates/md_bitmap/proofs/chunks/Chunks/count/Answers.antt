use Rattle.md_bitmap.proofs.Limits.{div-lt-div_ceil}
use Rattle.md_bitmap.proofs.chunks.Chunks.count.Goals as goal

pub returns-clause-covers : goal.returns-clause-covers
returns-clause-covers c sector h =
    rw (c.div_ceil.ensures, c.from.ensures)
    (div-lt-div_ceil c.args.self.now.size c.args.self.now.sectors sector c.args.self.now.chunking.some_sectors h)
