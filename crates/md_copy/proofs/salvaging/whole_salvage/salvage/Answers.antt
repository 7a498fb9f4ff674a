use Rattle.md_copy.proofs.SalvageLemmas.SalvageAnswered.{not_salvaged_of, salvaged_of}
use Rattle.md_copy.proofs.salvaging.whole_salvage.salvage.Goals as goal

pub returns-clause-salvaged : goal.returns-clause-salvaged
returns-clause-salvaged g c = salvaged_of c.args.target c.args.mirror.now c.salvage_by_steps.new.mirror c.salvaged_by_call.ensures.done c.salvage_by_steps.result c.salvage_by_steps.ensures.gives

pub returns-clause-refused : goal.returns-clause-refused
returns-clause-refused g c =
    not_salvaged_of c.args.target c.args.mirror.now c.salvage_by_steps.new.mirror c.requires.sound c.salvaged_by_call.ensures.refused c.salvage_by_steps.result c.salvage_by_steps.ensures.gives
