use Rattle.md_call_laws.proofs.CrashLemmas.HaltedCalls.{crashes_at_each_halt, crashes_at_halted_resync, crashes_at_halted_stop, crashes_at_halted_write, crashes_at_untold_resync}
use Rattle.md_call_laws.proofs.crashes.laws.halted_calls.Goals as goal

pub returns : goal.returns
returns c = record { steps = crashes_at_each_halt; write = crashes_at_halted_write; stop = crashes_at_halted_stop; untold = crashes_at_untold_resync; resync = crashes_at_halted_resync }
