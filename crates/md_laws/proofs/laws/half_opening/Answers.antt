use Rattle.md_laws.proofs.Openings.HalfOpened.{stays_as_left}
use Rattle.md_laws.proofs.laws.half_opening.Goals as goal

pub returns : goal.returns
returns c = record { as_left = stays_as_left }
