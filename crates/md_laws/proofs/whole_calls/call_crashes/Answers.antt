use Rattle.md_laws.proofs.Crashes.CallCrashes.{crashes_at_halts, crashes_at_steps}
use Rattle.md_laws.proofs.Crashes.ToldCrashes.{crashes_are_told}
use Rattle.md_laws.proofs.whole_calls.call_crashes.Goals as goal

pub returns : goal.returns
returns c = record { steps = crashes_at_steps; halts = crashes_at_halts; told = crashes_are_told }
