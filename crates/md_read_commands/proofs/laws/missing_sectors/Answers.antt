use Rattle.md_read_commands.proofs.Missing.{missing_unserved}
use Rattle.md_read_commands.proofs.laws.missing_sectors.Goals as goal

pub returns : goal.returns
returns c = missing_unserved
