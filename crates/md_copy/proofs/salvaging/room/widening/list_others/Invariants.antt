use Rattle.md_copy.specs.Salvaging.Widened.{AreOthersTo}
use Rattle.md_copy.proofs.salvaging.room.widening.list_others.Given as goal

abbrev pub invariant-loop-chunk : goal.invariant-loop-chunk
invariant-loop-chunk l = AreOthersTo l.chunk l.chunks l.set l.list
