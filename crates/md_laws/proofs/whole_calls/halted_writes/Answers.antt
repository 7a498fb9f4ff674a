use Rattle.md_laws.proofs.Crashes.HaltedWrites.{crashes_at_halted_log, crashes_at_halted_marks}
use Rattle.md_laws.proofs.Crashes.CopyCrashes.{crashes_at_halted_copies}
use Rattle.md_laws.proofs.whole_calls.halted_writes.Goals as goal

pub returns : goal.returns
returns c = record { marks = crashes_at_halted_marks; log = crashes_at_halted_log; copy = crashes_at_halted_copies }
