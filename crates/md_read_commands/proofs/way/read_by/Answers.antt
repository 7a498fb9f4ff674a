use Rattle.md_read_commands.proofs.way.read_by.Goals as goal

pub returns-in-Resynced-clause-gives : goal.returns-in-Resynced-clause-gives
returns-in-Resynced-clause-gives g c = rw c.in-Resynced.is c.read_resynced.ensures.gives

pub returns-in-Unresynced-clause-gives : goal.returns-in-Unresynced-clause-gives
returns-in-Unresynced-clause-gives g c = rw c.in-Unresynced.is c.read_marked_too.ensures.gives
