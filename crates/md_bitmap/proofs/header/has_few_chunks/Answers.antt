use Rattle.md_bitmap.proofs.Limits.{leb-few_chunks}
use Rattle.md_bitmap.proofs.header.has_few_chunks.Goals as goal

pub returns : goal.returns
returns c = rw (c.from.ensures, c.from-2.ensures) (leb-few_chunks c.args.sync_size c.args.chunksize c.requires)
