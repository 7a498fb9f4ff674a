use Rattle.md_read_commands.proofs.Filled.{filled_content}
use Rattle.md_read_commands.proofs.laws.filled_content.Goals as goal

pub returns : goal.returns
returns c = filled_content
