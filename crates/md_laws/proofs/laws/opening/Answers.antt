use Rattle.md_array.proofs.General.Honesty.{opened_honest}
use Rattle.md_laws.proofs.Openings.Fresh.{starts_fresh, stays_fresh}
use Rattle.md_laws.proofs.Openings.Opened as world
use Rattle.md_laws.proofs.Openings.OpenedFrom as from
use Rattle.md_laws.proofs.laws.opening.Goals as goal

pub returns : goal.returns
returns c = record { opened = world.opened; opened_from = from.opened_from; covered = from.covered; listed = from.listed_is_kept; read = from.opened_read; honest = opened_honest; fresh = starts_fresh; fresh_crashed = stays_fresh }
