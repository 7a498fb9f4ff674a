use Rattle.md_laws.proofs.Runs.CallRuns.{add_is_a_call, re_add_is_a_call}
use Rattle.md_laws.proofs.whole_calls.joining_calls.Goals as goal

pub returns : goal.returns
returns c = record { add = add_is_a_call; re_add = re_add_is_a_call }
