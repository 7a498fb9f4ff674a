use Rattle.md_call_laws.proofs.RebuildLemmas.SalvageCrashes.{crashes_chunk_unrecorded, crashes_enrolling_salvaged, crashes_in_salvage, crashes_in_salvage_anyhow, crashes_listing_lost, crashes_recording_chunk, crashes_recording_chunk_anyhow, crashes_salvaging, crashes_unenrolled_salvaged}
use Rattle.md_call_laws.proofs.rebuilds.laws.salvage_crashes.Goals as goal

pub returns : goal.returns
returns c = record {
  filling = crashes_salvaging;
  recording = crashes_recording_chunk;
  unrecorded = crashes_chunk_unrecorded;
  listing = crashes_listing_lost;
  enrolling = crashes_enrolling_salvaged;
  unenrolled = crashes_unenrolled_salvaged;
  recording_anyhow = crashes_recording_chunk_anyhow;
  until_enrolled = crashes_in_salvage;
  anyhow = crashes_in_salvage_anyhow;
}
