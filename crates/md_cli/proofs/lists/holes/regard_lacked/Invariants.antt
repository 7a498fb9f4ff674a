use Rattle.md_array.specs.Consistency.{IsConsistent}
use Rattle.md_cli.proofs.Lacked.{RegardsTo}
use Rattle.md_cli.proofs.lists.holes.regard_lacked.Given as goal

abbrev pub invariant-loop-k : goal.invariant-loop-k
invariant-loop-k g l = record { sound : IsConsistent l.mirror; regards : RegardsTo l.how l.lacking l.k l.fn.mirror l.mirror }
