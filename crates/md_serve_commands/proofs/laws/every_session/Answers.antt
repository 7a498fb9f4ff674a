use Rattle.md_serve_commands.proofs.SessionEvents.{session_goes}
use Rattle.md_serve_commands.proofs.laws.every_session.Goals as goal

pub returns : goal.returns
returns c = session_goes
