use Rattle.std.proofs.Common.{◌≡◌, length}
use Rattle.md_array.specs.Consistency.{IsConsistent}
use Rattle.md_read_commands.proofs.OtherMembers.{NoStandInBelow}
use Rattle.md_read_commands.proofs.stand_in.given.read_stand_ins.Given as goal

abbrev pub invariant-loop-k : goal.invariant-loop-k
invariant-loop-k g l = record {
  so_far : NoStandInBelow l.sector l.k l.fn.mirror l.mirror;
  sound : IsConsistent l.mirror;
  array : l.mirror.array ≡ l.fn.mirror.array;
  long : length l.block ≡ 512;
}
