use Rattle.std.proofs.Common.{◌-◌, ◌<◌, ◌≤◌, ◌^◌}
use Rattle.md_copy.specs.Salvaging.Fitting.{HaveRoomFor, LacksRoomWith}
use Rattle.md_copy.specs.Salvaging.Widened.{TakesFewest}
use Rattle.md_copy.proofs.salvaging.room.fitting.list_fewer.Given as goal

abbrev pub decreases-loop-to : goal.decreases-loop-to
decreases-loop-to g l = l.to - l.low

abbrev pub invariant-loop-to : goal.invariant-loop-to
invariant-loop-to g l = record {
  order : l.low < l.to;
  short : l.to ≤ 2 ^ 54;
  lacks : LacksRoomWith l.gap l.low l.target l.missing l.lost l.mirror.array;
  fewest : TakesFewest l.gap l.to l.mirror.array.chunks l.missing l.lost l.listed;
  room : HaveRoomFor l.target l.missing l.mirror.array l.listed;
}
