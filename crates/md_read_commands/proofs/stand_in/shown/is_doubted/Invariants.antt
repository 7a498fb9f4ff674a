use Rattle.md_read_commands.specs.StandIn.{NoneDoubts}
use Rattle.md_read_commands.proofs.stand_in.shown.is_doubted.Given as goal

abbrev pub invariant-loop-k : goal.invariant-loop-k
invariant-loop-k g l = record { none : NoneDoubts l.mirror.array.members l.number l.role l.k }
