use Rattle.md_laws.proofs.Runs.CallRuns.{admit_is_a_call, checkpoint_is_a_call, failed_admit_is_a_call, failed_checkpoint_is_a_call}
use Rattle.md_laws.proofs.whole_calls.recovering_calls.Goals as goal

pub returns : goal.returns
returns c = record { admit = admit_is_a_call; failed_admit = failed_admit_is_a_call; checkpoint = checkpoint_is_a_call; failed_checkpoint = failed_checkpoint_is_a_call }
