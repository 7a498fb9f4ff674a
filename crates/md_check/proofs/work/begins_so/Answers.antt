use Rattle.std.proofs.Common.{length, take}
use Rattle.std.proofs.lemmas.Slice.Eq.{bytes_eq-Decides}
use Rattle.md_check.proofs.work.begins_so.Goals as goal

pub returns : goal.returns
returns c = rw c.eq.ensures (λ yes. (bytes_eq-Decides (take (length c.args.block.now) c.args.bytes.now) c.args.block.now).0 yes)
