use Rattle.md_serve_commands.proofs.SessionCrashes.{flushed_stands, sessions_tell}
use Rattle.md_serve_commands.proofs.WholeSessions.{sessions_end_as_told}
use Rattle.md_serve_commands.proofs.laws.told_content.Goals as goal

pub returns-clause-sessions : goal.returns-clause-sessions
returns-clause-sessions c = sessions_tell

pub returns-clause-flushed : goal.returns-clause-flushed
returns-clause-flushed c = flushed_stands

pub returns-clause-end : goal.returns-clause-end
returns-clause-end c = sessions_end_as_told
