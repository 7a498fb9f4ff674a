use Rattle.md_metadata.proofs.GrowLemmas.InSync.{still_in_sync}
use Rattle.md_metadata.proofs.bitmap_grow.laws.stays_in_sync.Goals as goal

pub returns : goal.returns
returns c infos reads chunk_bytes g assembly growth grown assembled k was read at here =
    still_in_sync infos reads chunk_bytes g assembly growth grown assembled k was read at here
