use Rattle.md_resync.proofs.InLives.{resyncs_content_in_lives}
use Rattle.md_resync.proofs.laws.resynced_in_life.Goals as goal

pub returns : goal.returns
returns c = resyncs_content_in_lives
