use Rattle.md_resync.proofs.StepRuns.{steps_are_runs}
use Rattle.md_resync.proofs.StepCrashes.{crashes_are_of_runs}
use Rattle.md_resync.proofs.steps.every_step.Goals as goal

pub returns : goal.returns
returns c = record { runs = steps_are_runs; crashed = crashes_are_of_runs }
