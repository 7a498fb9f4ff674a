use Rattle.std.proofs.Common.{subst, sym}
use Rattle.md_badblocks.specs.Runs.{IsCanonical}
use Rattle.md_notices.proofs.SectorCounts.{sectors_fit}
use Rattle.md_notices.proofs.listed_sectors.count_sectors.Goals as goal

pub sector_count-requires : goal.sector_count-requires
sector_count-requires c = sectors_fit c.runs.result.now (subst IsCanonical (sym c.runs.ensures.runs) c.runs.ensures.canonical)
