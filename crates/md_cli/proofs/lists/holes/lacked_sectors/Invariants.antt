use Rattle.std.proofs.Common.{drop}
use Rattle.md_cli.proofs.Lacked.{AreHolesTo}
use Rattle.md_cli.proofs.lists.holes.lacked_sectors.Given as goal

abbrev pub invariant-loop-run : goal.invariant-loop-run
invariant-loop-run l = AreHolesTo l.run-items l.offset l.size (drop l.run-index l.run-items) l.sectors
