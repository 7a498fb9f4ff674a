use Rattle.md_laws.proofs.Runs.CallRuns.{fail_is_a_call, remove_is_a_call}
use Rattle.md_laws.proofs.whole_calls.leaving_calls.Goals as goal

pub returns : goal.returns
returns c = record { fail = fail_is_a_call; remove = remove_is_a_call }
