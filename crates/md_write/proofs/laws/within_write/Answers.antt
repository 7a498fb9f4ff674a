use Rattle.md_write.proofs.WriteCrashes.{crashes_halting_write, crashes_in_halted_write, crashes_in_write}
use Rattle.md_write.proofs.laws.within_write.Goals as goal

pub returns : goal.returns
returns c = record { done = crashes_in_write; halted = crashes_in_halted_write; halting = crashes_halting_write }
