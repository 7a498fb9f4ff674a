use Rattle.md_read_commands.specs.StandIn.{NoneOf}
use Rattle.md_read_commands.proofs.stand_in.shown.place_of.Given as goal

abbrev pub invariant-loop-k : goal.invariant-loop-k
invariant-loop-k g l = record { none : NoneOf l.mirror.array.members l.number l.k }
