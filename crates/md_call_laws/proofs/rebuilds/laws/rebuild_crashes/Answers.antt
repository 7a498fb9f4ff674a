use Rattle.md_call_laws.proofs.RebuildLemmas.RebuildRun.{crashes_anyhow, crashes_enrolled, crashes_in_rebuild, crashes_storing_records}
use Rattle.md_call_laws.proofs.RebuildLemmas.SpoiledRebuilds.{crashes_admitting_anyhow, crashes_at_checkpoint_anyhow, crashes_enrolling_anyhow, crashes_recording_anyhow, crashes_telling, crashes_unadmitted_anyhow, crashes_unenrolled_anyhow}
use Rattle.md_call_laws.proofs.RebuildLemmas.RebuildCrashes.{crashes_admitting, crashes_at_checkpoint, crashes_at_failed_checkpoint, crashes_enrolling, crashes_filling, crashes_listing, crashes_pass_unrecorded, crashes_recording, stops_storing, crashes_unadmitted, crashes_unenrolled, crashes_unrecorded}
use Rattle.md_call_laws.proofs.rebuilds.laws.rebuild_crashes.Goals as goal

pub returns : goal.returns
returns c = record {
  storing = stops_storing;
  unrecorded = crashes_unrecorded;
  admitting = crashes_admitting;
  unadmitted = crashes_unadmitted;
  filling = crashes_filling;
  recording = crashes_recording;
  pass_unrecorded = crashes_pass_unrecorded;
  checkpoint = crashes_at_checkpoint;
  failed_checkpoint = crashes_at_failed_checkpoint;
  listing = crashes_listing;
  enrolling = crashes_enrolling;
  unenrolled = crashes_unenrolled;
  enrolled = crashes_enrolled;
  storing_records = crashes_storing_records;
  telling = crashes_telling;
  admitting_anyhow = crashes_admitting_anyhow;
  unadmitted_anyhow = crashes_unadmitted_anyhow;
  recording_anyhow = crashes_recording_anyhow;
  checkpoint_anyhow = crashes_at_checkpoint_anyhow;
  enrolling_anyhow = crashes_enrolling_anyhow;
  unenrolled_anyhow = crashes_unenrolled_anyhow;
  done = crashes_in_rebuild;
  anyhow = crashes_anyhow;
}
