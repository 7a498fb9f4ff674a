use Rattle.md_badblocks.specs.Runs.{IsCanonical}
use Rattle.md_cli.proofs.GivenSectors.{AreGivenTo}
use Rattle.md_cli.proofs.lists.given_sectors.given_sectors.Given as goal

abbrev pub invariant-loop-j : goal.invariant-loop-j
invariant-loop-j g l = record { canonical : IsCanonical l.given; given : AreGivenTo l.lacking l.mirror.array l.sectors l.j l.given }
