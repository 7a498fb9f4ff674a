use Rattle.md_serve_commands.proofs.FirstSessions.{sessions_begin}
use Rattle.md_serve_commands.proofs.laws.first_sessions.Goals as goal

pub returns : goal.returns
returns c = sessions_begin
