use Rattle.std.proofs.Common.{subst, sym}
use Rattle.md_badblocks.specs.Runs.{IsCanonical}
use Rattle.md_read_commands.proofs.Noted.{canonical_fit}
use Rattle.md_cli.proofs.reading_on.join_gaps.Goals as goal

pub add_all-requires : goal.add_all-requires
add_all-requires c = record { fit = canonical_fit c.runs.result.now (subst IsCanonical (sym c.runs.ensures.runs) c.runs.ensures.canonical) }

pub add_all-requires-2 : goal.add_all-requires-2
add_all-requires-2 c = record { fit = canonical_fit c.runs-2.result.now (subst IsCanonical (sym c.runs-2.ensures.runs) c.runs-2.ensures.canonical) }
