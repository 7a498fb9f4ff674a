use Rattle.md_read_commands.proofs.AsResynced.{reads_as_resynced, sources_left}
use Rattle.md_read_commands.proofs.laws.read_as_resynced.Goals as goal

pub returns-clause-sources : goal.returns-clause-sources
returns-clause-sources c old new sound honest resyncs = sources_left old new sound honest resyncs

pub returns-clause-reads : goal.returns-clause-reads
returns-clause-reads c = reads_as_resynced
