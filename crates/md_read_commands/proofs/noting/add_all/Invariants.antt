use Rattle.std.proofs.Common.{drop}
use Rattle.md_read_commands.proofs.Noted.{HasKept, IsJoinedTo}
use Rattle.md_read_commands.proofs.noting.add_all.Given as goal

abbrev pub invariant-loop-run : goal.invariant-loop-run
invariant-loop-run l = record {
  joined : IsJoinedTo l.fn.set l.more (drop l.run-index l.more) l.set;
  kept : HasKept l.fn.set l.set;
}
