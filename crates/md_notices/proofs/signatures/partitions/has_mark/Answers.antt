use Rattle.md_notices.specs.Signatures.Partitions.{has_mark}
use Rattle.md_notices.proofs.signatures.partitions.has_mark.Goals as goal

pub returns : goal.returns
unfolding has_mark
returns c = c.has_bytes.ensures
