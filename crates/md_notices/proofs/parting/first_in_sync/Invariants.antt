use Rattle.md_notices.specs.Parting.{NoneInSync}
use Rattle.md_notices.proofs.parting.first_in_sync.Given as goal

abbrev pub invariant-loop-k : goal.invariant-loop-k
invariant-loop-k g l = record { none : NoneInSync l.mirror.array.members l.k }
