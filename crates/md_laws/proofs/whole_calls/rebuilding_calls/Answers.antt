use Rattle.md_laws.proofs.Runs.CallRuns.{enrol_is_a_call, failed_enrol_is_a_call, fill_is_a_call, prepare_is_a_call, spoil_is_a_call, target_failure_is_a_call}
use Rattle.md_laws.proofs.whole_calls.rebuilding_calls.Goals as goal

pub returns : goal.returns
returns c = record {
  fill = fill_is_a_call;
  target = target_failure_is_a_call;
  prepare = prepare_is_a_call;
  enrol = enrol_is_a_call;
  failed_enrol = failed_enrol_is_a_call;
  spoil = spoil_is_a_call;
}
