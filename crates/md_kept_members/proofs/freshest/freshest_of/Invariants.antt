use Rattle.std.proofs.Common.{◌<◌, length}
use Rattle.md_kept_members.specs.Spares.{superblocks_kept}
use Rattle.md_kept_members.proofs.Members.Freshest.{IsFreshestBelow}
use Rattle.md_kept_members.proofs.freshest.freshest_of.Given as goal

abbrev pub invariant-loop-i : goal.invariant-loop-i
invariant-loop-i l = record { within : l.freshest < length l.members; best : IsFreshestBelow (superblocks_kept l.members) l.i l.freshest }
