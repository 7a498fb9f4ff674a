use Rattle.md_copy.proofs.Refusals.Told.{refused_of, rebuilt_of}
use Rattle.md_copy.proofs.whole_rebuild.rebuild.Goals as goal

pub returns-clause-rebuilt : goal.returns-clause-rebuilt
returns-clause-rebuilt g c = rebuilt_of c.args.target c.args.mirror.now c.rebuild_by_steps.new.mirror c.rebuild_by_steps.result c.rebuild_by_steps.ensures.gives

pub returns-clause-refused : goal.returns-clause-refused
returns-clause-refused g c =
    refused_of c.args.target c.args.mirror.now c.rebuild_by_steps.new.mirror c.requires.sound c.rebuild_by_steps.result c.rebuild_by_steps.ensures.gives
