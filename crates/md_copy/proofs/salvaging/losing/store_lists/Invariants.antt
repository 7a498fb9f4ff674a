use Rattle.md_copy.specs.Salvaging.Losing.{every_role}
use Rattle.md_copy.proofs.Listings.ListsStored.{StoresBelow}
use Rattle.md_copy.proofs.salvaging.losing.store_lists.Given as goal

abbrev pub invariant-loop-k : goal.invariant-loop-k
invariant-loop-k g l = StoresBelow every_role l.k l.fn.mirror l.mirror
