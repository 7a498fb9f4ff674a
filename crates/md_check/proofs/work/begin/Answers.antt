use Rattle.md_check.proofs.WindowsRead.{first_turned}
use Rattle.md_check.proofs.work.begin.Goals as goal

pub returns-clause-turned : goal.returns-clause-turned
returns-clause-turned g c = first_turned c.args.chunks c.args.sectors c.args.reader.now c.fill.new.reader c.requires.room c.fill.ensures.read
