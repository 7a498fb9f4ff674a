use Rattle.md_serve_commands.proofs.WholeSessions.{sessions_whole}
use Rattle.md_serve_commands.proofs.laws.whole_sessions.Goals as goal

pub returns : goal.returns
returns g c = sessions_whole g.I.Source g.S.Sink
