use Rattle.md_call_laws.proofs.CrashLemmas.Agreement.{agrees_at_rest, resyncs_agree}
use Rattle.md_call_laws.proofs.crashes.laws.members_agree.Goals as goal

pub returns : goal.returns
returns c = record { at_rest = agrees_at_rest; resynced = resyncs_agree }
