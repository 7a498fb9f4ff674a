use Rattle.mirror_tests.proofs.Noted.{may_checkpoint}
use Rattle.mirror_tests.proofs.crashes.run.store_offset.Goals as goal

pub checkpoint-requires-clause-may : goal.checkpoint-requires-clause-may
checkpoint-requires-clause-may c = may_checkpoint _ _ _ c.requires.within c.requires.recovering c.requires.idle c.requires.resynced c.requires.noted c.requires.chunks c.requires.empty
