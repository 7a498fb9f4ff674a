use Rattle.md_metadata.proofs.StoredSectors.{StoresUpTo}
use Rattle.md_metadata.proofs.all_marks.store_member_marks.Given as goal

abbrev pub invariant-loop-block : goal.invariant-loop-block
invariant-loop-block g l = StoresUpTo l.k l.block l.fn.mirror l.mirror
