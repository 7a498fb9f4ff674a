use Rattle.md_call_laws.proofs.CrashLemmas.FirstOpening.{is_found_as_opened, leaves_as_opened}
use Rattle.md_call_laws.proofs.crashes.laws.first_openings.Goals as goal

pub returns : goal.returns
returns c = record { leaves = leaves_as_opened; found = is_found_as_opened }
