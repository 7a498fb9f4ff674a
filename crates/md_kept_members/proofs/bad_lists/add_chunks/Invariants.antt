use Rattle.md_kept_members.specs.Enrolling.{AreAddedTo}
use Rattle.md_kept_members.proofs.bad_lists.add_chunks.Given as goal

abbrev pub invariant-loop-chunk : goal.invariant-loop-chunk
invariant-loop-chunk l = AreAddedTo l.chunk l.chunks l.offset l.set l.fn.list l.list
