use Rattle.std.proofs.Common.{◌≡◌, ◌∙◌, ◌/◌, ℕ, sym, ap, subst, arith}
use Rattle.md_bitmap.specs.Chunks.{InChunk}
use Rattle.md_bitmap.specs.declared.chunks.Chunks.{Chunks}
use Rattle.md_array.proofs.Rebuilding.HeldContent.{chunk_unique, its_chunk}
use Rattle.md_read.proofs.unresynced.of_one_chunk.Goals as goal

pub returns-clause-some : goal.returns-clause-some
returns-clause-some g c =
    let chunks = c.chunks-chunks.result in
    let size = ap (λ (x : Chunks). x.size) c.chunks-chunks.ensures in
    let inside = c.requires.inside in
    let some = c.requires.some in
    let here = (c.range-start.ensures.sectors c.args.sector).0
    (subst (λ (n : ℕ). InChunk chunks.sectors chunks.size n c.args.sector) (sym c.chunk_of.ensures.is) (its_chunk chunks.size chunks.sectors c.args.sector chunks.chunking.some_sectors (omega arith))) in
    let before = here.1 in
    let least = c.min.ensures in
    omega arith

pub returns-clause-one : goal.returns-clause-one
returns-clause-one g c s from below =
    let chunks = c.chunks-chunks.result in
    let size = ap (λ (x : Chunks). x.size) c.chunks-chunks.ensures in
    let inside = c.requires.inside in
    let some = c.requires.some in
    let here = (c.range-start.ensures.sectors c.args.sector).0
    (subst (λ (n : ℕ). InChunk chunks.sectors chunks.size n c.args.sector) (sym c.chunk_of.ensures.is) (its_chunk chunks.size chunks.sectors c.args.sector chunks.chunking.some_sectors (omega arith))) in
    let start = here.0 in
    let least = c.min.ensures in
    let there = (c.range-start.ensures.sectors s).1 (omega arith, omega arith) in
    let width = ap (λ (x : Chunks). x.sectors) c.chunks-chunks.ensures in
    let is : s / chunks.sectors ≡ c.args.sector / chunks.sectors = sym (chunk_unique chunks.size chunks.sectors s c.chunk_of.result chunks.chunking.some_sectors there) ∙ c.chunk_of.ensures.is in
    subst (λ (w : ℕ). s / w ≡ c.args.sector / w) width is
