use Rattle.md_laws.proofs.Runs.SmallLife as lives
use Rattle.md_laws.proofs.lone_life.runs_twice.Goals as goal

pub returns-in-Ok-record : goal.returns-in-Ok-record
returns-in-Ok-record g c _ honest =
    lives.runs_twice c.args.mirror.now c.begin.new.self c.record.new.self c.in-Ok.pending c.in-Ok.ensures.event c.in-Ok-record.ensures.event honest
