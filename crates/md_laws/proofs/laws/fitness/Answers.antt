use Rattle.md_laws.proofs.Runs.MirrorLives.{fits_when_there}
use Rattle.md_laws.proofs.laws.fitness.Goals as goal

pub returns : goal.returns
returns c = record { fits = fits_when_there }
