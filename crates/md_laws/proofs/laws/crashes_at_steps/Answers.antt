use Rattle.md_laws.proofs.Crashes.AloneChanged.{crashes_as_filled, crashes_as_prepared, crashes_at_enrol, crashes_at_failed_enrol}
use Rattle.md_laws.proofs.Crashes.AsFailed.{crashes_as_failed, crashes_as_tried, crashes_at_events, crashes_undivided}
use Rattle.md_laws.proofs.Crashes.AtSteps.{crashes_at_failure, crashes_at_re_add, crashes_at_removal, crashes_at_sector, crashes_at_write, crashes_in_memory}
use Rattle.md_laws.proofs.Crashes.ReadAs.{reads_at_add, reads_at_re_add}
use Rattle.md_laws.proofs.Crashes.Spoiled.{crashes_as_spoiled, crashes_at_enrol_as_spoiled, crashes_at_failed_enrol_as_spoiled}
use Rattle.md_laws.proofs.Crashes.WithinAdd.{crashes_at_add, crashes_at_failed_add, crashes_at_refused_add}
use Rattle.md_laws.proofs.Crashes.WithinReAdd.{crashes_at_failed_re_add, crashes_at_refused_re_add}
use Rattle.md_laws.proofs.Crashes.WithinTarget.{reads_at_target}
use Rattle.md_laws.proofs.laws.crashes_at_steps.Goals as goal

pub returns : goal.returns
returns c = record { memory = crashes_in_memory; removal = crashes_at_removal; re_add = crashes_at_re_add; failed_re_add = crashes_at_failed_re_add; refused_re_add = crashes_at_refused_re_add; re_add_read = reads_at_re_add; add = crashes_at_add; add_read = reads_at_add; failed_add = crashes_at_failed_add; refused_add = crashes_at_refused_add; written = crashes_at_write; sector = crashes_at_sector; failed = crashes_at_failure; event = crashes_at_events; as_failed = crashes_as_failed; as_tried = crashes_as_tried; as_filled = crashes_as_filled; as_prepared = crashes_as_prepared; as_spoiled = crashes_as_spoiled; enrol_as_spoiled = crashes_at_enrol_as_spoiled; failed_enrol_as_spoiled = crashes_at_failed_enrol_as_spoiled; enrol = crashes_at_enrol; failed_enrol = crashes_at_failed_enrol; undivided = crashes_undivided; target = reads_at_target }
