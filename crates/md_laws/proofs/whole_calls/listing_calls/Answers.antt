use Rattle.md_laws.proofs.Runs.CallRuns.{note_bad_is_a_call, store_log_failure_is_a_call, store_log_is_a_call}
use Rattle.md_laws.proofs.Crashes.WithinLog.{crashes_at_log}
use Rattle.md_laws.proofs.whole_calls.listing_calls.Goals as goal

pub returns : goal.returns
returns c = record { note = note_bad_is_a_call; store = store_log_is_a_call; failure = store_log_failure_is_a_call; crashed = crashes_at_log }
