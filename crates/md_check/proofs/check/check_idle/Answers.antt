use Rattle.std.proofs.Common.{◌∙◌, sym}
use Rattle.md_check.proofs.check.check_idle.Goals as goal

pub returns : goal.returns
returns g c = record { running = sym c.halted.ensures ∙ c.if-halted.false; none = sym c.in_flight.ensures ∙ c.in_default.is }
