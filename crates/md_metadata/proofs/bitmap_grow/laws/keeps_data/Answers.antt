use Rattle.md_metadata.proofs.GrowLemmas.ReadBack.{data_kept}
use Rattle.md_metadata.proofs.bitmap_grow.laws.keeps_data.Goals as goal

pub returns : goal.returns
returns c infos chunk_bytes g k was old new growth at kept = data_kept infos chunk_bytes g growth k was at old new kept
