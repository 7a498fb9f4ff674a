use Rattle.std.proofs.Common.{◌≡◌, true, arith}
use Rattle.md_resync.proofs.CopiedChunks.{from_unmarked, range_of}
use Rattle.md_resync.proofs.chunks.copy_if_marked.Goals as goal

pub returns-then-not-is_marked : goal.returns-then-not-is_marked
returns-then-not-is_marked g c =
    let old = c.args.mirror.now in
    let chunk = c.chunk_of-chunk.result in
    let chunks = c.chunks-chunks.ensures in
    from_unmarked c.args.sector chunk c.range-start.result.0 c.range-start.result.1 old c.requires.sound c.requires.within (let is = c.chunk_of-chunk.ensures.is in cc)
    (λ marked. let tells = c.is_marked.ensures in let no = c.if-not-is_marked.true in let marks = c.marks.ensures in absurd cc)
    (range_of chunk c.range-start.result.0 c.range-start.result.1 c.chunks-chunks.result old.array chunks c.range-start.ensures.sectors)
