use Rattle.std.proofs.Common.{◌<◌, length}
use Rattle.md_assembly.proofs.Freshness.{IsFreshestOf}
use Rattle.md_assembly.proofs.freshest.first_with_most.Given as goal

abbrev pub invariant-loop-i : goal.invariant-loop-i
invariant-loop-i l = record { within : l.freshest < length l.members; best : IsFreshestOf l.members l.i l.freshest }
