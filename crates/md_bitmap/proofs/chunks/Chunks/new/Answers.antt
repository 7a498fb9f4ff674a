use Rattle.std.proofs.Common.{arith}
use Rattle.md_bitmap.proofs.Limits.{div_ceil-sectors}
use Rattle.md_bitmap.proofs.chunks.Chunks.new.Goals as goal

pub invariant_of-result : goal.invariant_of-result
invariant_of-result c =
    let same = div_ceil-sectors c.args.size c.args.chunksize c.requires.chunk_size in
    let least = c.requires.chunk_size.least in
    record {
      chunking = record {
        some_sectors = omega arith;
        few_chunks = rw same c.requires.few_chunks;
      };
    }

pub returns-clause-count : goal.returns-clause-count
returns-clause-count c = div_ceil-sectors c.args.size c.args.chunksize c.requires.chunk_size
