use Rattle.std.proofs.Common.{◌-◌, ◌≤◌}
use Rattle.md_copy.proofs.SalvageLemmas.Rooms.{AreTooSmall}
use Rattle.md_copy.proofs.salvaging.room.fitting.sectors_to_list.Given as goal

abbrev pub decreases-loop-gap : goal.decreases-loop-gap
decreases-loop-gap g l = 511 - l.gap

abbrev pub invariant-loop-gap : goal.invariant-loop-gap
invariant-loop-gap g l = record { most : l.gap ≤ 511; small : AreTooSmall l.gap l.target l.missing l.lost l.mirror.array }
