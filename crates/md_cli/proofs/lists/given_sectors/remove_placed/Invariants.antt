use Rattle.std.proofs.Common.{drop}
use Rattle.md_badblocks.specs.Runs.{IsCanonical}
use Rattle.md_cli.proofs.GivenSectors.{LeavesTo}
use Rattle.md_cli.proofs.lists.given_sectors.remove_placed.Given as goal

abbrev pub invariant-loop-run : goal.invariant-loop-run
invariant-loop-run l = record { canonical : IsCanonical l.set; left : LeavesTo l.run-items l.offset l.fn.set (drop l.run-index l.run-items) l.set }
