use Rattle.md_serve_commands.proofs.Halted.{end_halted, request_halted, session_halted}
use Rattle.md_serve_commands.proofs.Kept.{flush_told, nothing_dropped, write_told}
use Rattle.md_serve_commands.proofs.laws.told_writes.Goals as goal

pub returns-clause-kept : goal.returns-clause-kept
returns-clause-kept c = λ e old new x sector sectors through answers is told. write_told e old new x answers sector sectors through is told

pub returns-clause-flushed : goal.returns-clause-flushed
returns-clause-flushed c = λ e old new x answers is told. flush_told e old new x answers is told

pub returns-clause-dropped : goal.returns-clause-dropped
returns-clause-dropped c = nothing_dropped

pub returns-clause-halted : goal.returns-clause-halted
returns-clause-halted c = request_halted

pub returns-clause-session : goal.returns-clause-session
returns-clause-session c = session_halted

pub returns-clause-end : goal.returns-clause-end
returns-clause-end c = end_halted
