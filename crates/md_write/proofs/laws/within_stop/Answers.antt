use Rattle.md_write.proofs.WriteCrashes.{crashes_halting_stop, crashes_in_stop}
use Rattle.md_write.proofs.laws.within_stop.Goals as goal

pub returns : goal.returns
returns c = record { steps = crashes_in_stop; halting = crashes_halting_stop }
